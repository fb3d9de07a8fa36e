-- What a file is to a reader of steps: the journal of a history, a damaged journal, or no journal.
use Rattle.std.specs.Prelude.{◌≡◌, ◌≢◌, ℕ, List, [], ◌∷◌, ◌++◌, length, drop}
use Rattle.expressions.specs.Calendar.{Calendar}
use Rattle.sched_plain.specs.declared.step.Step.{Step}
use Rattle.sched_plain.specs.History.{History, beginning, based, ◌upon◌}
use Rattle.sched_plain.specs.Legal.{IsLegal, MayFollow}
use Rattle.sched_plain.specs.Validity.{IsValid, AllValid}
use Rattle.step_codec.specs.Payload.{payload_of}
use Rattle.journal_file.specs.Format.{gated, front, Begins, Holds, ClosedHead, DiffersAt}

-- the payloads of the steps of a history, the oldest first
abbrev pub payloads_of : History → List (List ℕ)
payloads_of beginning = []
payloads_of (based b kept) = payloads_of kept
payloads_of (s upon h) = payloads_of h ++ payload_of s ∷ []

-- the file is the journal of the history: its records are those of the steps, in order, each of them valid and such that it
-- may follow those before it, and then the journal ends
pub record IsJournalOf (c : Calendar) (h : History) (file : List ℕ) : Type 0 where
  pub legal : IsLegal c h
  pub valid : AllValid h
  pub holds : Holds (payloads_of h) file

-- the file begins like that, and then there is something
pub record BeginsLike (c : Calendar) (h : History) (file : List ℕ) : Type 0 where
  pub legal : IsLegal c h
  pub valid : AllValid h
  pub begins : Begins (payloads_of h) file

-- bytes that go on like this behind the history are damage: they begin with no closed gate, and with the record of no valid
-- step that may follow
pub record IsDamage (c : Calendar) (h : History) (bytes : List ℕ) : Type 0 where
  pub no_end : ClosedHead bytes → ⊥
  pub no_step : (s : Step) (more : List ℕ) → IsValid s → MayFollow c h s → bytes ≢ gated (payload_of s) ++ more

-- the file is a journal up to this gate, at an offset in bytes, and the first record that is damage is there
pub record DamagedAt (c : Calendar) (gate : ℕ) (file : List ℕ) : Type 0 where
  pub before : History
  pub begins : BeginsLike c before file
  pub at : gate ≡ length (front (payloads_of before))
  pub damage : IsDamage c before (drop gate file)

-- what a file is to a reader
pub data Reading : Type 0 where
  -- no journal: the first byte that is not that of the header, or is missing, is at this offset
  no_journal : ℕ → Reading
  damaged : ℕ → Reading
  journal : History → Reading

abbrev pub ReadsAs : Calendar → Reading → List ℕ → Type 0
ReadsAs c (no_journal at) file = DiffersAt at file
ReadsAs c (damaged gate) file = DamagedAt c gate file
ReadsAs c (journal h) file = IsJournalOf c h file
