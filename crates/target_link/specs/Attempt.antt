-- The request of an attempt, byte for byte (HTTP/1.1, RFC 9112).
use Rattle.std.specs.Prelude.{ℕ, Option, Some, None, List, [], ◌++◌, length, codes, decimal}
use Rattle.plain_words.specs.Ids.{id_text}
use Rattle.target_link.specs.declared.address.Address.{Address}
use Rattle.target_link.specs.declared.address.Spot.{Spot}
use Rattle.target_link.specs.declared.address.LoopHost.{LoopHost}
use Rattle.target_link.specs.declared.address.LoopHost.TheVariants.{V4, Name, V6}
use Rattle.target_link.specs.declared.request.BeginFacts.{BeginFacts}
use Rattle.target_link.specs.Keywords.{Known, replaced}
use Rattle.target_link.specs.Time.{time_text}

-- what an attempt knows of itself
abbrev pub known_of : BeginFacts → Known
known_of facts = record {
  arn = facts.arn;
  time = time_text facts.instant;
  id = id_text facts.inc facts.instant;
  number = decimal facts.number;
}

-- the body: the input with its keywords replaced, or nothing where there is no input
abbrev pub body_text : Known → Option (List ℕ) → List ℕ
body_text known None = []
body_text known (Some input) = replaced known input

-- how a host is written
abbrev pub host_name : LoopHost → List ℕ
host_name V4 = codes "127.0.0.1"
host_name Name = codes "localhost"
host_name V6 = codes "[::1]"

-- a host and its port
abbrev pub address_text : Address → List ℕ
address_text address = host_name address.host ++ codes ":" ++ decimal address.port

-- a line of the head
unfoldable pub header_line : List ℕ → List ℕ → List ℕ
header_line name value = name ++ codes ": " ++ value ++ codes "\r\n"

-- the first line
unfoldable pub request_line : List ℕ → List ℕ
request_line path = codes "POST " ++ path ++ codes " HTTP/1.1\r\n"

-- the line that names the target
abbrev pub host_line : Address → List ℕ
host_line address = header_line (codes "Host") (address_text address)

-- the line that says how many bytes the body has
abbrev pub length_line : ℕ → List ℕ
length_line length = header_line (codes "Content-Length") (decimal length)

-- the lines that describe a body of so many bytes
abbrev pub content_lines : ℕ → List ℕ
content_lines length = header_line (codes "Content-Type") (codes "application/json") ++ length_line length

-- the lines that say which attempt this is
abbrev pub attempt_lines : Known → List ℕ
attempt_lines known =
    header_line (codes "X-Execution-Id") known.id
    ++ header_line (codes "X-Attempt") known.number
    ++ header_line (codes "X-Schedule-Arn") known.arn
    ++ header_line (codes "X-Scheduled-Time") known.time

-- the last line and the empty line behind it
abbrev pub end_lines : List ℕ
end_lines = header_line (codes "Connection") (codes "close") ++ codes "\r\n"

-- a request up to its body of so many bytes
abbrev pub head_text : Spot → Known → ℕ → List ℕ
head_text spot known length =
    request_line spot.path ++ host_line spot.address ++ content_lines length ++ attempt_lines known ++ end_lines

-- a request with this body
abbrev pub with_body : Spot → Known → List ℕ → List ℕ
with_body spot known body = head_text spot known (length body) ++ body

-- the request of an attempt
unfoldable pub request_text : BeginFacts → List ℕ
request_text facts = with_body facts.spot (known_of facts) (body_text (known_of facts) facts.input)
