-- Which incarnations of a legal history act, and the zones that they are read in.
use Rattle.std.specs.Prelude.{◌≡◌, ℕ, true, ◌||◌, Some, None, is_some}
use Rattle.sched_plain.specs.declared.schedule.Schedule.{Schedule}
use Rattle.sched_plain.specs.History.{History}
use Rattle.sched_plain.specs.Changes.{changes_of}
use Rattle.sched_plain.specs.Rows.{rows_of, current}
use Rattle.sched_plain.specs.Zones.{is_utc, bytes_of}
use Rattle.expressions.specs.Calendar.{Calendar}
use Rattle.sched_plain.specs.Legal.{IsLegal}
use Rattle.next_dates.specs.NextInstants.{next_instant}

-- only a living schedule has a next instant
abbrev pub OnlyLivingAct : Type 0
OnlyLivingAct =
    (c : Calendar) (h : History) → IsLegal c h → (inc : ℕ) → current (rows_of (changes_of h)) inc ≡ None → next_instant c h inc ≡ None

-- the zone of a current content is the one that is built in, or its bytes are known
abbrev pub ZonesAreKnown : Type 0
ZonesAreKnown =
    (c : Calendar) (h : History) → IsLegal c h → (inc : ℕ) (content : Schedule) → current (rows_of (changes_of h)) inc ≡ Some content
    → (is_utc content.zone || is_some (bytes_of h content.zone)) ≡ true
