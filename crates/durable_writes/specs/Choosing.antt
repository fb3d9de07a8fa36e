-- How the moments of an Enter are chosen, by words that are drawn for them.
use Rattle.std.specs.Prelude.{◌≡◌, ℕ, ◌≤◌, ◌==◌, if◌then◌else◌, Option, List, [], ◌∷◌, length}
use Rattle.policy_rules.specs.Given.{Gives}
use Rattle.sched_plain.specs.declared.step.Pair.{Pair}
use Rattle.sched_calls.specs.Serves.{chosen_in, drawn, words_after, words_of}

-- the words that are drawn for a window: one, and none where it is OFF
abbrev pub words_for : ℕ → ℕ → List ℕ
words_for window word = if window == 0 then [] else word ∷ []

-- an instant was paired with a moment in its window
pub record Picks (window instant : ℕ) (told told' : Option (List ℕ)) (pair : Pair) : Type 0 where
  pub word : ℕ
  pub gives : Gives told (words_for window word) told'
  pub picked : pair ≡ record { instant = instant; chosen = chosen_in window instant word }

-- each of these instants was, and just these words were drawn for them
pub record Chooses (window : ℕ → ℕ) (instants : List ℕ) (told told' : Option (List ℕ)) (pairs : List Pair) : Type 0 where
  pub words : List ℕ
  pub gives : Gives told words told'
  pub chosen : pairs ≡ drawn window instants words
  pub left : words_after window instants words ≡ []
  pub drew : words_of window pairs ≡ length words
  pub few : length words ≤ length instants

-- some words were drawn, at most so many
pub record DrewSome (most : ℕ) (told told' : Option (List ℕ)) : Type 0 where
  pub words : List ℕ
  pub gives : Gives told words told'
  pub few : length words ≤ most
