-- A value takes a token more than the members that are written in it.
use Rattle.std.proofs.Common.{ℕ, zero, suc, ◌+◌, ◌≤◌, List, [], ◌∷◌, length, Option, Some, None, option_and_then, arith}
use Rattle.std.specs.Prelude.{⊤}
use Rattle.json.specs.Token.{Token}
use Rattle.json.specs.Json.{Json, null, boolean, number, string, array, object, Items, no_items, item, Members, no_members, member, Parse, parse_map, after_end_array, read_key, items_step, members_step, items, members, value_with, value}

-- the members that are written in a value, repeated ones too
abbrev mutual
  pub written : Json → ℕ
  written null = 0
  written (boolean b) = 0
  written (number s) = 0
  written (string s) = 0
  written (array js) = items_written js
  written (object ms) = members_written ms

  pub items_written : Items → ℕ
  items_written no_items = 0
  items_written (item j js) = written j + items_written js

  pub members_written : Members → ℕ
  members_written no_members = 0
  members_written (member k j ms) = suc (written j + members_written ms)

-- what a value takes
abbrev pub taken : Json → ℕ
taken j = suc (written j)

-- what was read and the tokens that are left are no more than so many
abbrev pub AtMost : {A : Type 0} → (A → ℕ) → ℕ → Option (A × List Token) → Type 0
AtMost f n None = ⊤
AtMost f n (Some p) = f p.0 + length p.1 ≤ n

abbrev Within : {A : Type 0} → (A → ℕ) → Parse A → Type 0
Within f p = (ts : List Token) → AtMost f (length ts) (p ts)

mapped : {A B : Type 0} (f : A → ℕ) (g : B → ℕ) (c m n : ℕ) (h : A → B) → ((a : A) → g (h a) ≤ c + f a) → c + m ≤ n
    → (o : Option (A × List Token)) → AtMost f m o → AtMost g n (parse_map h o)
mapped f g c m n h k room None x = tt
mapped f g c m n h k room (Some p) x = omega (arith, k p.0)

and_more : {B : Type 0} (g : B → ℕ) (c m n : ℕ) (h : Json → B → B) → ((j : Json) (b : B) → g (h j b) ≤ c + written j + g b)
    → c + m ≤ suc n → (more : Parse B) → Within g more
    → (o : Option (Json × List Token)) → AtMost taken m o → AtMost g n (option_and_then (λ q. parse_map (h q.0) (more q.1)) o)
and_more g c m n h is room more within None x = tt
and_more g c m n h is room more within (Some q) x =
    mapped g g (c + written q.0) (length q.1) n (h q.0) (is q.0) (omega arith) (more q.1) (within q.1)

-- a bracket, or a key, is a token less
abbrev Ends : ℕ → Option (List Token) → Type 0
Ends n None = ⊤
Ends n (Some r) = suc (length r) ≤ n

ends_array : (ts : List Token) → Ends (length ts) (after_end_array ts)
ends_array [] = tt
ends_array (Token.begin_object ∷ ts) = tt
ends_array (Token.end_object ∷ ts) = tt
ends_array (Token.begin_array ∷ ts) = tt
ends_array (Token.end_array ∷ ts) = omega arith
ends_array (Token.key s ∷ ts) = tt
ends_array (Token.string s ∷ ts) = tt
ends_array (Token.number s ∷ ts) = tt
ends_array (Token.boolean b ∷ ts) = tt
ends_array (Token.null ∷ ts) = tt
ends_array (Token.bad ∷ ts) = tt

abbrev Keyed : ℕ → Option (Option (List ℕ) × List Token) → Type 0
Keyed n None = ⊤
Keyed n (Some p) = suc (length p.1) ≤ n

has_key : (ts : List Token) → Keyed (length ts) (read_key ts)
has_key [] = tt
has_key (Token.begin_object ∷ ts) = tt
has_key (Token.end_object ∷ ts) = omega arith
has_key (Token.begin_array ∷ ts) = tt
has_key (Token.end_array ∷ ts) = tt
has_key (Token.key s ∷ ts) = omega arith
has_key (Token.string s ∷ ts) = tt
has_key (Token.number s ∷ ts) = tt
has_key (Token.boolean b ∷ ts) = tt
has_key (Token.null ∷ ts) = tt
has_key (Token.bad ∷ ts) = tt

module _ (p : Parse Json) (within : Within taken p) where
  item_turn : (more : Parse Items) → Within items_written more → (ts : List Token) (o : Option (List Token)) → Ends (length ts) o
      → AtMost items_written (length ts) (items_step p more ts o)
  item_turn more again ts (Some r) ends = omega arith
  item_turn more again ts None ends =
      and_more items_written 0 (length ts) (length ts) item (λ j b. omega arith) (omega arith) more again (p ts) (within ts)

  Within-items : (n : ℕ) → Within items_written (items p n)
  unfolding items
  Within-items zero ts = tt
  Within-items (suc n) ts = item_turn (items p n) (Within-items n) ts (after_end_array ts) (ends_array ts)

  member_turn : (more : Parse Members) → Within members_written more → (n : ℕ) (o : Option (Option (List ℕ) × List Token)) → Keyed n o
      → AtMost members_written n (option_and_then (λ q. members_step p more q.0 q.1) o)
  member_turn more again n None keyed = tt
  member_turn more again n (Some (None, s)) keyed = omega arith
  member_turn more again n (Some (Some k, s)) keyed =
      and_more members_written 1 (length s) n (member k) (λ j b. omega arith) (omega arith) more again (p s) (within s)

  Within-members : (n : ℕ) → Within members_written (members p n)
  unfolding members
  Within-members zero ts = tt
  Within-members (suc n) ts = member_turn (members p n) (Within-members n) (length ts) (read_key ts) (has_key ts)

one_level : (a : Parse Items) (o : Parse Members) → Within items_written a → Within members_written o → Within taken (value_with a o)
one_level a o p q [] = tt
one_level a o p q (Token.begin_object ∷ ts) =
    mapped members_written taken 1 (length ts) (suc (length ts)) object (λ ms. omega arith) (omega arith) (o ts) (q ts)
one_level a o p q (Token.end_object ∷ ts) = tt
one_level a o p q (Token.begin_array ∷ ts) =
    mapped items_written taken 1 (length ts) (suc (length ts)) array (λ js. omega arith) (omega arith) (a ts) (p ts)
one_level a o p q (Token.end_array ∷ ts) = tt
one_level a o p q (Token.key s ∷ ts) = tt
one_level a o p q (Token.string s ∷ ts) = omega arith
one_level a o p q (Token.number s ∷ ts) = omega arith
one_level a o p q (Token.boolean b ∷ ts) = omega arith
one_level a o p q (Token.null ∷ ts) = omega arith
one_level a o p q (Token.bad ∷ ts) = tt

pub few_written : (d : ℕ) (ts : List Token) → AtMost taken (length ts) (value d ts)
unfolding value
few_written zero = one_level (λ ts. None) (λ ts. None) (λ ts. tt) (λ ts. tt)
few_written (suc d) =
    one_level (λ ts. items (value d) (length ts) ts) (λ ts. members (value d) (length ts) ts)
    (λ ts. Within-items (value d) (few_written d) (length ts) ts)
    (λ ts. Within-members (value d) (few_written d) (length ts) ts)
