-- What a map from tokens to values holds.
use Rattle.std.specs.Prelude.{ℕ, Option, List, refl}
use Rattle.std.specs.Coded.{Coded, code_by, coded×, coded_ℕ, coded_list}
use Rattle.std.specs.Map.{lookup}
use Rattle.plain_words.specs.Lists.{same_text}

-- pairs of a token and a value
abbrev pub Pairs : Type 0 → Type 0
Pairs V = List (List ℕ × V)

-- the value under a token, if there is one
abbrev pub value_under : {V : Type 0} → Pairs V → List ℕ → Option V
value_under pairs token = lookup (same_text token) pairs

-- what contracts see of a map: its pairs, and how many more it can take
pub record Held (V : Type 0) : Type 0 where
  pub pairs : Pairs V
  pub room : ℕ

-- what is held is stored as the pairs with the room
abbrev pub held_code : {V : Type 0} → Coded V → Coded (Held V)
held_code {V} code =
    code_by (Pairs V × ℕ) (coded× (coded_list (coded× (coded_list coded_ℕ) code)) coded_ℕ) (λ held. (held.pairs, held.room)) (λ parts. record { pairs = parts.0; room = parts.1 }) (λ _. refl)
