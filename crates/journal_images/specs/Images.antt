-- Which histories the images of a disk stand for while steps are appended to its journal.
use Rattle.std.specs.Prelude.{◌⊎◌, ℕ, ◌≤◌, List}
use Rattle.outside.specs.Faults.{Rose}
use Rattle.expressions.specs.Calendar.{Calendar}
use Rattle.sched_plain.specs.declared.step.Step.{Step}
use Rattle.sched_plain.specs.History.{History, ◌upon◌, Extends}
use Rattle.sched_plain.specs.Legal.{MayFollow}
use Rattle.sched_plain.specs.Validity.{IsValid}
use Rattle.journal_file.specs.Format.{Holds}
use Rattle.journal_steps.specs.Journals.{payloads_of}

-- the file is the journal of a history with one step upon it, valid and such that it may follow
pub record HasOneMore (c : Calendar) (h : History) (file : List ℕ) : Type 0 where
  pub step : Step
  pub valid : IsValid step
  pub follows : MayFollow c h step
  pub holds : Holds (payloads_of (step upon h)) file

-- The file is the journal of a history that grew from the first and grows to the second, none of its steps skipped and none in
-- part; or, where something failed, of such a one with a step upon it that was in doubt.
pub record Near (c : Calendar) (failed : Type 0) (from to : History) (file : List ℕ) : Type 0 where
  pub at : History
  pub grew : Extends from at
  pub grows : Extends at to
  pub is : Holds (payloads_of at) file ⊎ (failed × HasOneMore c at file)

module _ (c : Calendar) {D : Type 0} (moment : D → ℕ) (image_since : D → ℕ → List ℕ → Type 0) (faults : D → ℕ) where
  -- While a disk went from old to new a history grew so. Each file that a crash meanwhile left stands for one between; of a disk
  -- that has been watched for longer, each that was not one before.
  pub record Between (old new : D) (from to : History) : Type 0 where
    pub extends : Extends from to
    pub later : moment old ≤ moment new
    pub counts : faults old ≤ faults new
    pub each : (since : ℕ) (file : List ℕ) → since ≤ moment old → image_since new since file
        → image_since old since file ⊎ Near c (Rose (faults old) (faults new)) from to file
