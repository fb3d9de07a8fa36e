-- What an Enter that may follow finds in the parts.
use Rattle.std.specs.Prelude.{ℕ, ◌≤◌, All, List, length}
use Rattle.plain_words.specs.declared.limits.TheConstants.{LAST_MOMENT}
use Rattle.plain_words.specs.declared.moment.Moment.{Moment}
use Rattle.sched_plain.specs.declared.step.Pair.{Pair}
use Rattle.sched_plain.specs.declared.step.Step.TheVariants as steps
use Rattle.sched_plain.specs.History.{History}
use Rattle.sched_plain.specs.Legal.{MayFollow}
use Rattle.sched_plain.specs.Validity.{IsPair, IsValid}
use Rattle.ledger_rows.specs.Rows.{IsEntrance}
use Rattle.ledger_rows.specs.State.{pairs_in}
use Rattle.book_parts.specs.Stands.{Stands, calendar}
use Rattle.book_parts.specs.Told.{Told}

-- what an Enter wants of the parts, but for room: its moment is not below the last, its incarnation is there, and its pairs
-- rise and come behind the entries of the incarnation
pub record EnterFinds (b : Told) (at : Moment) (inc : ℕ) (pairs : List Pair) : Type 0 where
  pub forward : b.moment ≤ at.0
  pub last : at.0 ≤ LAST_MOMENT
  pub low : 1 ≤ inc
  pub there : inc ≤ length b.rows.rows
  pub each : All IsPair pairs
  pub entrance : IsEntrance (pairs_in b.ledger.lanes inc) pairs

-- a valid Enter that may follow finds it
abbrev pub EntersFind : Type 0
EntersFind =
    (b : Told) (h : History) (at : Moment) (inc : ℕ) (pairs : List Pair) → Stands b h
    → IsValid (steps.Enter at inc pairs) → MayFollow calendar h (steps.Enter at inc pairs) → EnterFinds b at inc pairs
