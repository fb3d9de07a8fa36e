-- What entering the occurrences of an incarnation does, where some have no entry.
use Rattle.std.specs.Prelude.{◌≡◌, ℕ, Option, List, [], ◌∷◌, length}
use Rattle.sched_plain.specs.declared.step.Step.{Step}
use Rattle.sched_plain.specs.History.{History, ◌upon◌}
use Rattle.sched_calls.specs.Serves.{Finds, wanted, wanted_enter, words_left}
use Rattle.book_parts.specs.Stands.{calendar}
use Rattle.durable_book.specs.declared.grow_fault.GrowFault.{GrowFault}
use Rattle.durable_book.specs.Acts.{IsCause}
use Rattle.durable_book.specs.Faults.{grow_denial}
use Rattle.durable_writes.specs.Words.{Draws}

-- the history with an Enter of these instants for an incarnation, where there are any: with the picker's words
abbrev pub with_enter : ℕ → ℕ → List ℕ → List ℕ → History → History
with_enter t inc words [] h = h
with_enter t inc words (instant ∷ more) h = wanted_enter calendar h inc t words upon h

-- the history with the Enter that is wanted for an incarnation, if one is
abbrev pub entered : ℕ → ℕ → List ℕ → History → History
entered t inc words h = with_enter t inc words (wanted calendar h inc t) h

-- the occurrences that were wanted were entered, so many, each with a word of the picker where it has a window
pub record Enters (doubt : Option Step) (t inc many : ℕ) (told told' : Option (List ℕ)) (h after : History) : Type 0 where
  pub found : History
  pub finds : Finds h doubt found
  pub words : List ℕ
  pub added : after ≡ entered t inc words found
  pub left : words_left calendar found inc t words ≡ []
  pub as_many : many ≡ length (wanted calendar found inc t)
  pub draws : Draws found after words [] told told'

-- none was entered: the history stays as it was found, the words that were drawn are dropped, and the Enter has its cause
pub record LeavesUnentered (full : Step → ℕ → ℕ → Type 0) (doubt : Option Step) (t inc : ℕ) (told told' : Option (List ℕ)) (fault : GrowFault) (h after : History) : Type 0 where
  pub finds : Finds h doubt after
  pub dropped : List ℕ
  pub draws : Draws after after [] dropped told told'
  pub cause : IsCause full (wanted_enter calendar after inc t dropped) (grow_denial fault) after
