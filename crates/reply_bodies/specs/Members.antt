-- The pieces that bodies are made of, as the tokens of JSON (RFC 8259).
use Rattle.std.specs.Prelude.{ℕ, Option, Some, None, List, [], ◌∷◌, ◌++◌, decimal}
use Rattle.json.specs.Token.{Token, begin_object, end_object, begin_array, end_array, key, string, number}

-- pieces one after another, and then the last token
abbrev pub ended_by : Token → List (List Token) → List Token
ended_by last [] = last ∷ []
ended_by last (piece ∷ more) = piece ++ ended_by last more

-- an object with these members, in this order
abbrev pub object_of : List (List Token) → List Token
object_of members = begin_object ∷ ended_by end_object members

-- a list of these objects
abbrev pub list_of : List Token → List Token
list_of objects = begin_array ∷ objects ++ end_array ∷ []

-- a member whose value is an object or a list
abbrev pub member_of : List ℕ → List Token → List Token
member_of name value = key name ∷ value

-- a member whose value is a text
abbrev pub text_member : List ℕ → List ℕ → List Token
text_member name value = key name ∷ string value ∷ []

-- a member whose value is a whole number
abbrev pub number_member : List ℕ → ℕ → List Token
number_member name value = key name ∷ number (decimal value) ∷ []

-- a member that is left out where there is no text
abbrev pub text_if_any : List ℕ → Option (List ℕ) → List Token
text_if_any name None = []
text_if_any name (Some value) = text_member name value

-- a member that is left out where there is no number
abbrev pub number_if_any : List ℕ → Option ℕ → List Token
number_if_any name None = []
number_if_any name (Some value) = number_member name value
