-- The next instant of an incarnation behind what is entered.
use Rattle.std.specs.Prelude.{◌≡◌, ℕ, ◌+◌, Option, Some, None, List}
use Rattle.plain_words.specs.Lists.{nth, change_nth}
use Rattle.sched_plain.specs.declared.row.Row.{Row}
use Rattle.sched_plain.specs.declared.schedule.Schedule.{Schedule}
use Rattle.sched_plain.specs.declared.step.Pair.{Pair}
use Rattle.sched_plain.specs.Rows.{current_of}
use Rattle.zone_shelf.specs.Places.{Places}
use Rattle.book_writes.specs.Dating.{IsFirst, IsKnown}

-- the first instant behind one of the current content of a row, where it has one and its zone is known
abbrev pub IsBehindRow : Places → Row → ℕ → Option ℕ → Type 0
IsBehindRow zones row instant next =
    (content : Schedule) → current_of row ≡ Some content → IsKnown zones content
    → IsFirst zones content row.created.0 (instant + 1) next

-- so it is of an incarnation, where it has a row
abbrev pub IsBehind : Places → List Row → ℕ → ℕ → Option ℕ → Type 0
IsBehind zones rows inc instant next = (row : Row) → nth rows inc ≡ Some row → IsBehindRow zones row instant next

-- the next instants where that of one incarnation is written down anew, behind an instant of it
pub record IsAnew (zones : Places) (rows : List Row) (inc instant : ℕ) (old new : List (Option ℕ)) : Type 0 where
  pub date : Option ℕ
  pub is : IsBehind zones rows inc instant date
  pub dates : new ≡ change_nth (λ before. date) old inc

-- the next instants behind what is entered of one incarnation, up to its last pair; without a pair they stay
abbrev pub GoOn : Places → List Row → ℕ → Option Pair → List (Option ℕ) → List (Option ℕ) → Type 0
GoOn zones rows inc None old new = new ≡ old
GoOn zones rows inc (Some pair) old new = IsAnew zones rows inc pair.instant old new
