-- What a step that may follow a legal history makes of the next instant of an incarnation.
use Rattle.std.specs.Prelude.{◌≡◌, ℕ, ◌+◌, false, Option, Some, None, List, length}
use Rattle.plain_words.specs.declared.moment.Moment.{Moment}
use Rattle.sched_plain.specs.declared.row.Row.{Row}
use Rattle.sched_plain.specs.declared.schedule.Schedule.{Schedule}
use Rattle.sched_plain.specs.declared.step.Pair.{Pair}
use Rattle.sched_plain.specs.declared.step.Step.{Step}
use Rattle.sched_plain.specs.declared.step.Step.TheVariants as steps
use Rattle.sched_plain.specs.declared.write.Write.{Write}
use Rattle.sched_plain.specs.declared.write.Write.TheVariants as writes
use Rattle.plain_words.specs.Lists.{last, nth}
use Rattle.expressions.specs.Calendar.{Calendar}
use Rattle.sched_plain.specs.History.{History, ◌upon◌}
use Rattle.sched_plain.specs.Changes.{changes_of}
use Rattle.sched_plain.specs.Rows.{Renews, Ends, deed_of, rows_of}
use Rattle.sched_plain.specs.Zones.{read_under}
use Rattle.sched_plain.specs.Items.{Item, opened, items}
use Rattle.sched_plain.specs.Occurrences.{occurs}
use Rattle.sched_plain.specs.Legal.{IsLegal, MayFollow}
use Rattle.next_dates.specs.Dates.{IsLeast, from_on}
use Rattle.next_dates.specs.NextInstants.{next_instant, changes_next}

-- only a Change that touches or creates the incarnation and an Enter of pairs of it change the next instant
abbrev pub NextStays : Type 0
NextStays =
    (c : Calendar) (h : History) (s : Step) → IsLegal c h → MayFollow c h s → (inc : ℕ)
    → changes_next h s inc ≡ false → next_instant c (s upon h) inc ≡ next_instant c h inc

-- that of a new schedule is its first instant from its creation on
abbrev pub NextCreated : Type 0
NextCreated =
    (c : Calendar) (h : History) (at : Moment) (group name : List ℕ) (token : Option (List ℕ)) (content : Schedule)
    → let s = steps.Change at (writes.CreateSchedule group name token content) in
    IsLegal c h → MayFollow c h s → (inc : ℕ) (next : Option ℕ) → inc ≡ length (rows_of (changes_of h)) + 1
    → IsLeast (from_on at.0 (occurs c (opened (read_under h content.zone) at.0 at.0 content))) next
    → next_instant c (s upon h) inc ≡ next

-- that of a schedule that is given a content is the content's first instant behind the Change
abbrev pub NextRenewed : Type 0
NextRenewed =
    (c : Calendar) (h : History) (at : Moment) (write : Write) → IsLegal c h → MayFollow c h (steps.Change at write)
    → (inc : ℕ) (row : Row) (content : Schedule) (next : Option ℕ)
    → nth (rows_of (changes_of h)) inc ≡ Some row → deed_of write row ≡ Renews content
    → IsLeast (from_on (at.0 + 1) (occurs c (opened (read_under h content.zone) row.created.0 (at.0 + 1) content))) next
    → next_instant c (steps.Change at write upon h) inc ≡ next

-- a schedule that a Change ends has none
abbrev pub NextEnded : Type 0
NextEnded =
    (c : Calendar) (h : History) (at : Moment) (write : Write) → IsLegal c h → MayFollow c h (steps.Change at write)
    → (inc : ℕ) (row : Row) → nth (rows_of (changes_of h)) inc ≡ Some row → deed_of write row ≡ Ends
    → next_instant c (steps.Change at write upon h) inc ≡ None

-- after an Enter it is the last item's first instant behind the last pair
abbrev pub NextEntered : Type 0
NextEntered =
    (c : Calendar) (h : History) (at : Moment) (inc : ℕ) (pairs : List Pair) → IsLegal c h
    → MayFollow c h (steps.Enter at inc pairs) → (pair : Pair) (item : Item) (next : Option ℕ)
    → last pairs ≡ Some pair → last (items h inc) ≡ Some item
    → IsLeast (from_on (pair.instant + 1) (occurs c item)) next → next_instant c (steps.Enter at inc pairs upon h) inc ≡ next
