-- The bytes of a response (RFC 9112, sections 4 to 6).
use Rattle.std.specs.Prelude.{ℕ, List, [], ◌∷◌, ◌++◌, length, Option, Some, None, codes, decimal, unwrap_or, if◌then◌else◌, ◌==◌}
use Rattle.http.specs.StatusCode.{reason_phrase}

-- the two bytes that end a line
abbrev pub carriage_return : ℕ
carriage_return = 13

abbrev pub line_feed : ℕ
line_feed = 10

abbrev pub line_end : List ℕ
line_end = carriage_return ∷ line_feed ∷ []

-- the status with its standard phrase
abbrev pub status_line : ℕ → List ℕ
status_line status =
    codes "HTTP/1.1 " ++ decimal status ++ codes " " ++ unwrap_or (reason_phrase status) [] ++ line_end

-- what the body is, and how many bytes it has
abbrev pub body_lines : ℕ → List ℕ
body_lines bytes =
    codes "Content-Type: application/json" ++ line_end ++ codes "Content-Length: " ++ decimal bytes ++ line_end

-- the name of the error, on errors alone
abbrev pub error_line : Option (List ℕ) → List ℕ
error_line None = []
error_line (Some name) = codes "x-amzn-ErrorType: " ++ name ++ line_end

-- how many steps the history has, where the answer tells it
abbrev pub history_line : Option ℕ → List ℕ
history_line None = []
history_line (Some steps) = codes "X-History: " ++ decimal steps ++ line_end

-- the whole response
unfoldable pub response_text : ℕ → Option (List ℕ) → List ℕ → Option ℕ → List ℕ
response_text status error body history =
    status_line status ++ body_lines (length body) ++ error_line error ++ history_line history ++ line_end ++ body

-- the name of the error that goes with a status
unfoldable pub error_name : ℕ → List ℕ
error_name status =
    if status == 400 then codes "ValidationException"
    else (if status == 402 then codes "ServiceQuotaExceededException"
    else (if status == 404 then codes "ResourceNotFoundException"
    else (if status == 409 then codes "ConflictException"
    else (if status == 503 then codes "OutOfMemory" else codes "InternalServerException"))))

-- the response of an error with this body, and the number of steps of the history where it tells that
abbrev pub error_text : ℕ → List ℕ → Option ℕ → List ℕ
error_text status body history = response_text status (Some (error_name status)) body history

-- the response where memory was wanted; it tells nothing of the history
abbrev pub memory_text : List ℕ
memory_text = error_text 503 (codes "{\"Message\":\"memory\"}") None
