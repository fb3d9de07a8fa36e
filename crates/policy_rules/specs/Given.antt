-- What is given one value after another: words of a picker, readings of a clock.
use Rattle.std.specs.Prelude.{◌≡◌, ℕ, zero, suc, ◌-◌, ◌^◌, ◌==◌, if◌then◌else◌, Option, Some, None, List, [], ◌∷◌, ◌++◌, length, slice_get}
use Rattle.std.specs.Option.{option_map, unwrap_or}
use Rattle.plain_words.specs.Lists.{or_else}

-- where it is told what was given, it was told before, and these values are what was given since
abbrev pub Gives : Option (List ℕ) → List ℕ → Option (List ℕ) → Type 0
Gives before values None = Unit {0}
Gives before values (Some given) = Some given ≡ option_map (λ earlier. earlier ++ values) before

-- what contracts see of a list that is given from its beginning on: its values, and how many were given so far
pub record Script : Type 0 where
  pub values : List ℕ
  pub given : ℕ

-- the word at a place of a list, from 0: behind its end it is 0
abbrev pub word_at : List ℕ → ℕ → ℕ
word_at words place = unwrap_or (slice_get words place) 0

-- the reading at a place of a list, from 0: behind its end it is the last one, and 0 where there is none
abbrev pub reading_at : List ℕ → ℕ → ℕ
reading_at readings place =
    unwrap_or (or_else (slice_get readings place) (slice_get readings (length readings - 1))) 0

-- the first so many values, by their places
abbrev pub first_values : (ℕ → ℕ) → ℕ → List ℕ
first_values at zero = []
first_values at (suc n) = first_values at n ++ at n ∷ []

-- what is told of them: all that were given, and nothing from the 2 ^ 64 - 1st on
abbrev pub told_values : (ℕ → ℕ) → ℕ → Option (List ℕ)
told_values at given = if given == 2 ^ 64 - 1 then None else Some (first_values at given)
