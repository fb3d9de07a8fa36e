-- What a Begin, an End and a Close that may follow find in the parts of a book: all that is asked of the parts where one of
-- them is taken, but for the count of steps, the room for an attempt and that for its letter.
use Rattle.std.specs.Prelude.{◌≡◌, ℕ, ◌+◌, ◌≤◌, true, IfSome, length}
use Rattle.plain_words.specs.Lists.{some_pass}
use Rattle.plain_words.specs.declared.moment.Moment.{Moment}
use Rattle.plain_words.specs.declared.verdict.Verdict.{Verdict}
use Rattle.plain_words.specs.declared.limits.TheConstants.{LAST_MOMENT}
use Rattle.sched_plain.specs.declared.outcome.Reason.{Reason}
use Rattle.sched_plain.specs.declared.step.Step.TheVariants as steps
use Rattle.sched_plain.specs.Attempts.{is_live_attempt}
use Rattle.sched_plain.specs.History.{History}
use Rattle.sched_plain.specs.Legal.{MayFollow}
use Rattle.sched_plain.specs.Report.{is_due}
use Rattle.sched_plain.specs.Standing.{standing_of}
use Rattle.sched_plain.specs.Validity.{IsValid}
use Rattle.ledger_rows.specs.State.{filed_in, is_closable}
use Rattle.book_parts.specs.Told.{Told}
use Rattle.book_parts.specs.Stands.{Stands, calendar}
use Rattle.book_entries.specs.Ending.{is_aloft}

-- a Begin: the entry of its occurrence is due and its number is the next one; the incarnation is there, and the instant has
-- come
pub record BeginFinds (b : Told) (at : Moment) (inc instant attempt : ℕ) : Type 0 where
  pub forward : b.moment ≤ at.0
  pub last : at.0 ≤ LAST_MOMENT
  pub due : some_pass (λ f. is_due (standing_of f at.0)) (filed_in b.ledger.lanes inc instant) ≡ true
  pub number : IfSome (filed_in b.ledger.lanes inc instant) (λ f. attempt ≡ f.entry.used + 1)
  pub there : inc ≤ length b.rows.rows
  pub come : instant ≤ at.0

-- an End: the attempt of this number is live, and one of its occurrence is in the air; the incarnation is there
pub record EndFinds (b : Told) (at : Moment) (inc instant number : ℕ) : Type 0 where
  pub forward : b.moment ≤ at.0
  pub last : at.0 ≤ LAST_MOMENT
  pub live : is_live_attempt (filed_in b.ledger.lanes inc instant) number ≡ true
  pub aloft : is_aloft b.ledger.flights inc instant ≡ true
  pub low : 1 ≤ inc
  pub there : inc ≤ length b.rows.rows

-- a Close: the entry of its occurrence is open, and has no attempt in the air; the incarnation is there
pub record CloseFinds (b : Told) (at : Moment) (inc instant : ℕ) : Type 0 where
  pub forward : b.moment ≤ at.0
  pub last : at.0 ≤ LAST_MOMENT
  pub closable : some_pass is_closable (filed_in b.ledger.lanes inc instant) ≡ true
  pub low : 1 ≤ inc
  pub there : inc ≤ length b.rows.rows

-- where the parts stand for a history that a valid step may follow, it finds this
abbrev pub BeginsFind : Type 0
BeginsFind =
    (b : Told) (h : History) (at : Moment) (inc instant number epoch : ℕ) → Stands b h
    → IsValid (steps.Begin at inc instant number epoch) → MayFollow calendar h (steps.Begin at inc instant number epoch)
    → BeginFinds b at inc instant number

abbrev pub EndsFind : Type 0
EndsFind =
    (b : Told) (h : History) (at : Moment) (inc instant number : ℕ) (verdict : Verdict) (status : ℕ) → Stands b h
    → IsValid (steps.End at inc instant number verdict status) → MayFollow calendar h (steps.End at inc instant number verdict status)
    → EndFinds b at inc instant number

abbrev pub ClosesFind : Type 0
ClosesFind =
    (b : Told) (h : History) (at : Moment) (inc instant : ℕ) (reason : Reason) → Stands b h
    → IsValid (steps.Close at inc instant reason) → MayFollow calendar h (steps.Close at inc instant reason)
    → CloseFinds b at inc instant
