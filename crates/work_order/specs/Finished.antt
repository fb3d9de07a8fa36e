-- Since when a schedule is finished.
use Rattle.std.specs.Prelude.{ℕ, nat_lt, Bool, not, ◌&&◌, if◌then◌else◌, Option, Some, None, is_none}
use Rattle.std.specs.Option.{unwrap_or}
use Rattle.sched_plain.specs.declared.schedule.Schedule.{Schedule}
use Rattle.sched_plain.specs.History.{History}
use Rattle.plain_words.specs.Lists.{last}
use Rattle.sched_plain.specs.Changes.{changes_of}
use Rattle.sched_plain.specs.Rows.{rows_of, current}
use Rattle.expressions.specs.Calendar.{Calendar}
use Rattle.sched_plain.specs.Ledger.{ledger_of}
use Rattle.sched_plain.specs.Entries.{entries, instants_of, undecided}
use Rattle.next_dates.specs.NextInstants.{next_instant}

-- since when a schedule with this current content is finished, where it is to be deleted then: nothing is to come, and
-- no entry waits to be decided. From its last entered instant on, from 0 on where it never occurred
abbrev pub finished_with : Option Schedule → Option ℕ → Bool → Option ℕ → Option ℕ
finished_with None next waits entered = None
finished_with (Some content) next waits entered =
    if content.enabled && content.delete_after && is_none next && not waits then Some (unwrap_or entered 0) else None

-- since when an incarnation is finished
abbrev pub finished_from : Calendar → History → ℕ → Option ℕ
finished_from c h inc =
    finished_with (current (rows_of (changes_of h)) inc) (next_instant c h inc) (nat_lt 0 (undecided (ledger_of h) inc))
    (last (instants_of (entries (ledger_of h) inc)))
