-- What the map of piles shows, and what a changed pile leaves.
use Rattle.std.specs.Prelude.{◌≡◌, ◌+◌, ◌≤◌, ℕ, List, length, ◌++◌, ◌∷◌, [], Some, None, map, if◌then◌else◌}
use Rattle.std.specs.String.{string_bytes}
use Rattle.std.specs.declared.string.String.{String}
use Rattle.std.specs.BTreeMap.{BTreeMap, get_by_text}
use Rattle.plain_words.specs.Lists.{same_text}
use Rattle.sched_plain.specs.declared.letter.Letter.{Letter}
use Rattle.dead_letters.specs.Piles.{Piles, Piled, pile_under, letters_on, room_on}

-- each queue by its bytes, with its pile
abbrev pub piles_of : {A : Type 0} → List (String A × Piled) → Piles
piles_of {A} entries = map {A = String A × Piled} (λ entry. (string_bytes entry.0, entry.1)) entries

-- one queue has this pile now, and every other what it had
abbrev pub Changes : {A : Type 0} → BTreeMap (String A) Piled → BTreeMap (String A) Piled → List ℕ → Piled → Type 0
Changes old new queue pile = (q : List ℕ) → get_by_text new q ≡ (if same_text queue q then Some pile else get_by_text old q)

-- a pile with one letter more at its end
pub record IsAdded (before after : Piled) (letter : Letter) : Type 0 where
  pub letters : after.letters ≡ before.letters ++ letter ∷ []
  pub room : before.room ≤ after.room + 1

-- a pile with as many letters, and no less room
pub record IsWider (before after : Piled) : Type 0 where
  pub letters : after.letters ≡ before.letters
  pub room : before.room ≤ after.room

-- every queue has its letters, and no less room
pub record Widened {A : Type 0} (old new : BTreeMap (String A) Piled) : Type 0 where
  pub letters : (q : List ℕ) → letters_on (get_by_text new q) ≡ letters_on (get_by_text old q)
  pub room : (q : List ℕ) → room_on (get_by_text old q) ≤ room_on (get_by_text new q)

-- how many letters these piles have
abbrev pub count_in : List Piled → ℕ
count_in [] = 0
count_in (pile ∷ piles) = length pile.letters + count_in piles

-- no two of the queues are the same
abbrev pub AreAlone : Piles → Type 0
AreAlone [] = Unit {0}
AreAlone (entry ∷ entries) = (pile_under entries entry.0 ≡ None) × AreAlone entries

-- the same of the map's entries
abbrev pub AreApart : {A : Type 0} → List (String A × Piled) → Type 0
AreApart entries = AreAlone (piles_of entries)
