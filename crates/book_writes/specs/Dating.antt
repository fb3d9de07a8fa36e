-- The dates that a write gives to what it touches.
use Rattle.std.specs.Prelude.{◌≡◌, ℕ, ◌+◌, ◌≤◌, nat_lt, false, Option, Some, None, List, [], ◌∷◌, ◌++◌}
use Rattle.plain_words.specs.Lists.{last, nth, when}
use Rattle.sched_plain.specs.declared.row.Row.{Row}
use Rattle.sched_plain.specs.declared.schedule.Schedule.{Schedule}
use Rattle.sched_plain.specs.Entries.{entries, instants_of, undecided}
use Rattle.sched_plain.specs.Items.{opened}
use Rattle.sched_plain.specs.Ledger.{LedgerCall}
use Rattle.sched_plain.specs.Occurrences.{occurs}
use Rattle.zone_shelf.specs.Places.{Places}
use Rattle.next_dates.specs.Dates.{IsLeast, from_on, never}
use Rattle.work_order.specs.Finished.{finished_with}
use Rattle.book_parts.specs.Entering.{IsKnown as IsZoneKnown}
pub use Rattle.book_parts.specs.Entering.{read_in}
use Rattle.book_parts.specs.Stands.{calendar}

-- the first instant of a content from a moment on, whichever moment its item began at before; it counts from the creation
-- of its schedule
abbrev pub IsFirst : Places → Schedule → ℕ → ℕ → Option ℕ → Type 0
IsFirst zones content created from next =
    (first : ℕ) → first ≤ from
    → IsLeast (from_on from (occurs calendar (opened (read_in zones content.zone) created first content))) next

-- that of a content which a row is given behind a moment
abbrev pub IsRenewed : Places → List Row → Schedule → ℕ → ℕ → Option ℕ → Type 0
IsRenewed zones rows content at inc next =
    (row : Row) → nth rows inc ≡ Some row → IsFirst zones content row.created.0 (at + 1) next

-- since when an incarnation with this content and next instant is finished, by the calls of its ledger
abbrev pub finished_now : List LedgerCall → Schedule → ℕ → Option ℕ → Option ℕ
finished_now calls content inc next =
    finished_with (Some content) next (nat_lt 0 (undecided calls inc)) (last (instants_of (entries calls inc)))

-- the date that a table of dates keeps of one: the greatest number, which is no moment, stands for none
abbrev pub kept_date : Option ℕ → Option ℕ
kept_date None = None
kept_date (Some date) = when (nat_lt date never) date

-- the zone of a content is UTC, or its bytes are there
abbrev pub IsKnown : Places → Schedule → Type 0
IsKnown zones content = IsZoneKnown zones content.zone

-- the dates of a schedule that is created stand at the ends of the tables
pub record IsBegun (zones : Places) (content : Schedule) (at : ℕ) (next later finished completed : List (Option ℕ)) : Type 0 where
  pub first : Option ℕ
  pub is : IsFirst zones content at at first
  pub coming : later ≡ next ++ first ∷ []
  pub ending : completed ≡ finished ++ finished_with (Some content) first false None ∷ []
