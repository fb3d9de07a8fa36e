-- What a Complete that may follow finds in the parts of a book: all that is asked of them where it is taken, but for the
-- count of steps.
use Rattle.std.specs.Prelude.{◌≡◌, ℕ, ◌≤◌, true}
use Rattle.plain_words.specs.declared.limits.TheConstants.{LAST_MOMENT}
use Rattle.plain_words.specs.declared.moment.Moment.{Moment}
use Rattle.sched_plain.specs.declared.step.Step.TheVariants as steps
use Rattle.sched_plain.specs.History.{History}
use Rattle.sched_plain.specs.Legal.{MayFollow}
use Rattle.sched_plain.specs.Validity.{IsValid}
use Rattle.sched_rows.specs.State.{lives_at}
use Rattle.book_parts.specs.Stands.{Stands, calendar}
use Rattle.book_parts.specs.Told.{Told}

-- a Complete: its moment is none before that of the last step, and none past the last there is, and its schedule lives
pub record CompleteFinds (b : Told) (at : Moment) (inc : ℕ) : Type 0 where
  pub forward : b.moment ≤ at.0
  pub last : at.0 ≤ LAST_MOMENT
  pub lives : lives_at b.rows.rows inc ≡ true

-- where the parts stand for a history that a valid Complete may follow, it finds this
abbrev pub CompletesFind : Type 0
CompletesFind =
    (b : Told) (h : History) (at : Moment) (inc : ℕ) → Stands b h → IsValid (steps.Complete at inc)
    → MayFollow calendar h (steps.Complete at inc) → CompleteFinds b at inc
