-- What a file says while steps are appended to it.
use Rattle.std.specs.Prelude.{ℕ, ◌+◌, List, Option, Some, None, length}
use Rattle.sched_plain.specs.declared.step.Step.{Step}
use Rattle.sched_plain.specs.History.{History}
use Rattle.step_codec.specs.Payload.{payload_of}
use Rattle.journal_file.specs.Format.{HoldsEither}
use Rattle.journal_file.specs.Journals.{JournalText, Keeps, Doubts}
use Rattle.journal_steps.specs.Journals.{payloads_of}

-- where the gate behind a step's record is
abbrev pub behind : JournalText → Step → ℕ
behind journal s = journal.end + 5 + length (payload_of s)

module _ {D : Type 0} (seen : D → Option (List ℕ)) (image : D → List ℕ → Type 0) where
  -- the file on the disk, and each that a crash now may leave, is the journal of a history; where a step is in doubt, of that
  -- history or of it with that step upon it
  abbrev pub FileIs : JournalText → D → History → Option Step → Type 0
  FileIs journal disk h None = Keeps seen image journal disk (payloads_of h)
  FileIs journal disk h (Some s) = Doubts seen image journal disk (payloads_of h) (payload_of s)

-- the file is the journal of a history, or of it with the step upon it
abbrev pub IsEither : History → Step → List ℕ → Type 0
IsEither h s file = HoldsEither (payloads_of h) (payload_of s) file
