-- How far the reading of a journal has come, and what it ends with.
use Rattle.std.specs.Prelude.{◌≡◌, ◌≢◌, ℕ, List, Option}
use Rattle.expressions.specs.Calendar.{Calendar}
use Rattle.sched_plain.specs.declared.step.Step.{Step}
use Rattle.sched_plain.specs.History.{History, ◌upon◌}
use Rattle.sched_plain.specs.Legal.{MayFollow}
use Rattle.sched_plain.specs.Validity.{IsValid}
use Rattle.step_codec.specs.Payload.{payload_of}
use Rattle.journal_file.specs.Journals.{OpeningText, JournalText, Passed, Keeps}
use Rattle.journal_steps.specs.Journals.{payloads_of}

-- the payload is that of no valid step that may follow
abbrev pub IsOfNoStep : Calendar → History → List ℕ → Type 0
IsOfNoStep c h payload = (s : Step) → IsValid s → MayFollow c h s → payload ≢ payload_of s

-- what stood for a history now stands for it with the step of the payload upon it
abbrev pub Takes : (History → Type 0) → (History → Type 0) → List ℕ → Type 0
Takes old new payload = (h : History) → old h → (s : Step) × (payload ≡ payload_of s) × new (s upon h)

module _ {M D : Type 0} (Stands : M → History → Type 0) (seen : D → Option (List ℕ)) (image : D → List ℕ → Type 0) where
  -- the reading has come past the records of a history, and the book stands for it
  pub record Past (book : M) (opening : OpeningText) (disk : D) : Type 0 where
    pub history : History
    pub stands : Stands book history
    pub passed : Passed seen image opening disk (payloads_of history)

  -- the book stands for a history, and the journal on the disk holds its steps, whatever happens
  pub record Recovered (book : M) (journal : JournalText) (disk : D) : Type 0 where
    pub history : History
    pub stands : Stands book history
    pub keeps : Keeps seen image journal disk (payloads_of history)
