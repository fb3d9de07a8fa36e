-- How requests stand in a stream of bytes (RFC 9112): one behind the other, each a head as `httparse`
-- reads it and a body of as many bytes as Content-Length says.
use Rattle.std.specs.Prelude.{◌≡◌, ℕ, ◌<◌, ◌≤◌, if◌then◌else◌, List, [], ◌∷◌, ◌++◌, length, map, All, Option, Some, None, codes}
use Rattle.std.specs.List.{flat_map}
use Rattle.std.specs.Str.{str_eq_ignore_ascii_case}
use Rattle.httparse.specs.Grammar.{Field, RequestHead, IsRequestHead, print_request}
use Rattle.httparse.specs.Spans.{name_and_value}
use Rattle.http_wire.specs.declared.request.HttpRequest.{HttpRequest}
use Rattle.http_wire.specs.declared.limits.TheConstants.{HEAD_LIMIT, HEADER_LIMIT, BODY_LIMIT, LENGTH_DIGITS}
use Rattle.http_wire.specs.Devices.{Gives}
use Rattle.http_wire.specs.Digits.{number_within}

-- the values of the headers of this name, in their order; the case of letters in names does not count
abbrev pub values_in : List ℕ → List (List ℕ × List ℕ) → List (List ℕ)
values_in name [] = []
values_in name ((other, value) ∷ rest) =
    if str_eq_ignore_ascii_case other name then value ∷ values_in name rest else values_in name rest

-- the same of the fields of a head; a value has no white space around it
abbrev pub values_of : List ℕ → List Field → List (List ℕ)
values_of name fields = values_in name (map name_and_value fields)

-- the length that the digits of Content-Length write, where a body may be as long
abbrev pub length_value : List ℕ → Option ℕ
length_value digits = number_within LENGTH_DIGITS BODY_LIMIT digits

-- the length of the body that these values of Content-Length say: 0 for none, and no length for more than one
abbrev pub body_length : List (List ℕ) → Option ℕ
body_length [] = Some 0
body_length (digits ∷ []) = length_value digits
body_length (first ∷ second ∷ more) = None

-- the length of the body, where no Transfer-Encoding is there
abbrev pub sized_by : List (List ℕ) → List (List ℕ) → Option ℕ
sized_by [] lengths = body_length lengths
sized_by (coding ∷ more) lengths = None

-- the length of the body that a head's fields say
abbrev pub length_of_fields : List Field → Option ℕ
length_of_fields fields =
    sized_by (values_of (codes "transfer-encoding") fields) (values_of (codes "content-length") fields)

-- a head and the body behind it
pub record Message : Type 0 where
  pub head : RequestHead
  pub body : List ℕ

-- the bytes of a message
abbrev pub message_bytes : Message → List ℕ
message_bytes m = print_request m.head ++ m.body

-- a message that is framed: its head is one of the grammar, with at most 64 headers in at most 16,384 bytes, and says
-- the length of its body
pub record IsFramed (m : Message) : Type 0 where
  pub head : IsRequestHead m.head
  pub fields : length m.head.fields ≤ HEADER_LIMIT
  pub short : length (print_request m.head) ≤ HEAD_LIMIT
  pub sized : length_of_fields m.head.fields ≡ Some (length m.body)

-- the request that a message makes
abbrev pub request_of : Message → HttpRequest
request_of m = record {
  method = m.head.method;
  target = m.head.target;
  moments = values_of (codes "x-moment") m.head.fields;
  body = m.body;
}

-- no framed message stands at the front of these bytes
abbrev pub HasNoMessage : List ℕ → Type 0
HasNoMessage bytes = (m : Message) (rest : List ℕ) → IsFramed m → ¬ (bytes ≡ message_bytes m ++ rest)

-- something stands here, and no framed message at its front
pub record IsNoMessage (bytes : List ℕ) : Type 0 where
  pub something : 0 < length bytes
  pub none : HasNoMessage bytes

-- a stream holds these messages one behind the other, and no message stands behind the last
pub record Holds (bytes : List ℕ) (messages : List Message) (rest : List ℕ) : Type 0 where
  pub framed : All IsFramed messages
  pub reads : bytes ≡ flat_map message_bytes messages ++ rest
  pub none : HasNoMessage rest

-- a stream holds one list of messages, and one rest stands behind them
abbrev pub HoldsOneList : Type 0
HoldsOneList = (bytes : List ℕ) (ms ns : List Message) (r q : List ℕ) → Holds bytes ms r → Holds bytes ns q → (ms ≡ ns) × (r ≡ q)

-- one framed message was taken, and this is its request
pub record TakesRequest (before : Option (List ℕ)) (request : HttpRequest) (after : Option (List ℕ)) : Type 0 where
  pub message : Message
  pub framed : IsFramed message
  pub asked : request ≡ request_of message
  pub taken : Gives before (message_bytes message) after

-- no message and something behind it stand at the front of these bytes
abbrev pub HasNothingBehind : List ℕ → Type 0
HasNothingBehind bytes = (m : Message) (rest : List ℕ) → IsFramed m → bytes ≡ message_bytes m ++ rest → rest ≡ []

-- bytes were taken that are no whole message
pub record TakesPart (before after : Option (List ℕ)) : Type 0 where
  pub taken : List ℕ
  pub none : HasNoMessage taken
  pub gives : Gives before taken after

-- bytes were taken, and nothing past a message
pub record TakesAtMostOne (before after : Option (List ℕ)) : Type 0 where
  pub taken : List ℕ
  pub within : HasNothingBehind taken
  pub gives : Gives before taken after
