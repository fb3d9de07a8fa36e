-- How images stand between two histories from one call of a disk to the next.
use Rattle.std.specs.Prelude.{ℕ, ◌≤◌, List}
use Rattle.outside.specs.Faults.{Rose}
use Rattle.expressions.specs.Calendar.{Calendar}
use Rattle.disk_port.specs.Crashes.{LeavesOnly}
use Rattle.sched_plain.specs.declared.step.Step.{Step}
use Rattle.sched_plain.specs.History.{History, ◌upon◌, Extends}
use Rattle.sched_plain.specs.Legal.{MayFollow}
use Rattle.sched_plain.specs.Validity.{IsValid}
use Rattle.step_codec.specs.Payload.{payload_of}
use Rattle.journal_file.specs.Format.{Holds, HoldsEither}
use Rattle.journal_steps.specs.Journals.{payloads_of}
use Rattle.journal_images.specs.Images.{Between, Near}

module _ {D : Type 0} (moment : D → ℕ) (image_since : D → ℕ → List ℕ → Type 0) (faults : D → ℕ) where
  -- before the first call
  abbrev pub Begins : Type 0
  Begins = (c : Calendar) (disk : D) (h : History) → Between c moment image_since faults disk disk h h

  -- a step was appended
  abbrev pub Grows : Type 0
  Grows = (c : Calendar) (old mid new : D) (from h : History) (s : Step) → Between c moment image_since faults old mid from h
      → LeavesOnly moment image_since mid new (HoldsEither (payloads_of h) (payload_of s)) → faults mid ≤ faults new
      → Between c moment image_since faults old new from (s upon h)

  -- a step that may follow was appended, and a call failed
  abbrev pub Fails : Type 0
  Fails = (c : Calendar) (old mid new : D) (from h : History) (s : Step) → Between c moment image_since faults old mid from h
      → LeavesOnly moment image_since mid new (HoldsEither (payloads_of h) (payload_of s)) → Rose (faults mid) (faults new) → faults mid ≤ faults new
      → IsValid s → MayFollow c h s → Between c moment image_since faults old new from h

module _ {D : Type 0} (image : D → List ℕ → Type 0) (moment : D → ℕ) (image_since : D → ℕ → List ℕ → Type 0) (faults : D → ℕ) where
  -- The disk was only read and synced, and no image joined those that there were; so a step in doubt may be found or not. A disk
  -- counts what is an image now among those since an earlier moment.
  abbrev pub Rests : Type 0
  Rests = ((disk : D) (since : ℕ) (file : List ℕ) → since ≤ moment disk → image disk file → image_since disk since file)
      → (c : Calendar) (old mid new : D) (from h after : History) → Between c moment image_since faults old mid from h → Extends h after
      → LeavesOnly moment image_since mid new (image mid) → faults mid ≤ faults new → Between c moment image_since faults old new from after

  -- Where the file was the journal of the first history at the start, each file that a crash left since then is that of one
  -- between. At its own moment a disk has no images since then but those now.
  abbrev pub StandBetween : Type 0
  StandBetween = ((disk : D) (file : List ℕ) → image_since disk (moment disk) file → image disk file)
      → (c : Calendar) (old new : D) (from to : History) → Between c moment image_since faults old new from to
      → ((file : List ℕ) → image old file → Holds (payloads_of from) file)
      → (file : List ℕ) → image_since new (moment old) file → Near c (Rose (faults old) (faults new)) from to file
