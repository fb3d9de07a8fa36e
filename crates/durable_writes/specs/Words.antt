-- The words that a call draws of its picker, for the moments of what it enters.
use Rattle.std.specs.Prelude.{◌≡◌, ℕ, ◌+◌, ◌≤◌, Option, List, ◌++◌, length}
use Rattle.plain_words.specs.declared.limits.TheConstants.{MOST_PAIRS}
use Rattle.policy_rules.specs.Given.{Gives}
use Rattle.sched_plain.specs.History.{History}
use Rattle.sched_calls.specs.Serves.{words_in}

-- of what the picker gave, these words stand in the steps between two histories; those that it gave last were dropped, with
-- an Enter that was not added: they are no more than an Enter may draw
pub record Draws (h after : History) (words dropped : List ℕ) (told told' : Option (List ℕ)) : Type 0 where
  pub gives : Gives told (words ++ dropped) told'
  pub drew : words_in after ≡ words_in h + length words
  pub few : length dropped ≤ MOST_PAIRS
