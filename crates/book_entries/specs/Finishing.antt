-- Since when an incarnation is finished, by what the parts of a book know.
use Rattle.std.specs.Prelude.{ℕ, nat_lt, Option, Some, None, List}
use Rattle.plain_words.specs.Lists.{last, when}
use Rattle.sched_plain.specs.declared.row.Row.{Row}
use Rattle.sched_plain.specs.declared.schedule.Schedule.{Schedule}
use Rattle.sched_plain.specs.Ledger.{LedgerCall}
use Rattle.sched_plain.specs.Entries.{entries, instants_of, undecided}
use Rattle.sched_plain.specs.Rows.{current}
use Rattle.date_table.specs.Dates.{date_at, never}
use Rattle.work_order.specs.Finished.{finished_with}

-- by its current content, the calls of its ledger and its next instant
abbrev pub finished_by : Option Schedule → List LedgerCall → Option ℕ → ℕ → Option ℕ
finished_by content calls next inc = finished_with content next (nat_lt 0 (undecided calls inc)) (last (instants_of (entries calls inc)))

-- by the rows and the next instants of all
abbrev pub finished_of : List Row → List LedgerCall → List (Option ℕ) → ℕ → Option ℕ
finished_of rows calls next inc = finished_by (current rows inc) calls (date_at next inc) inc

-- the date that a table keeps of one: the greatest number, which is no moment, stands for none
abbrev pub kept_date : Option ℕ → Option ℕ
kept_date None = None
kept_date (Some date) = when (nat_lt date never) date
