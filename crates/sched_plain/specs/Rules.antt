-- Which step may follow a history. The rules of each kind of step are a table; the first broken rule of the table
-- says why the step may not follow.
use Rattle.std.specs.Prelude.{ℕ, ◌+◌, ◌*◌, ◌==◌, nat_le, nat_lt, Bool, true, false, not, ◌&&◌, ◌||◌, if◌then◌else◌, Option, Some, None, is_some, is_none, List, [], ◌∷◌, length}
use Rattle.std.specs.Option.{option_map, option_and_then}
use Rattle.sched_plain.specs.declared.entry.Filed.{Filed}
use Rattle.sched_plain.specs.declared.holder.Holder.{Holder}
use Rattle.sched_plain.specs.declared.schedule.Schedule.{Schedule}
use Rattle.sched_plain.specs.declared.standing.Standing.{Standing}
use Rattle.sched_plain.specs.declared.standing.Standing.TheVariants as standings
use Rattle.sched_plain.specs.declared.step.Pair.{Pair}
use Rattle.sched_plain.specs.declared.step.Step.{Step}
use Rattle.sched_plain.specs.declared.step.Step.TheVariants as steps
use Rattle.sched_plain.specs.declared.outcome.Reason.{Reason}
use Rattle.sched_plain.specs.declared.outcome.Reason.TheVariants as reasons
use Rattle.sched_plain.specs.declared.why.RowFault.{RowFault}
use Rattle.sched_plain.specs.declared.why.Why.{Why}
use Rattle.sched_plain.specs.declared.why.Why.TheVariants as whys
use Rattle.sched_plain.specs.declared.work.Work.{Work}
use Rattle.sched_plain.specs.declared.work.Work.TheVariants as works
use Rattle.sched_plain.specs.declared.write.Write.{Write}
use Rattle.sched_plain.specs.declared.write.Write.TheVariants as writes
use Rattle.plain_words.specs.Ids.{shard_of}
use Rattle.plain_words.specs.Moments.{moment_of}
use Rattle.sched_plain.specs.Moments.{at_of}
use Rattle.plain_words.specs.Lists.{first_some, when}
use Rattle.sched_plain.specs.Zones.{is_utc}
use Rattle.sched_plain.specs.Leases.{is_taking, is_held, is_taker}
use Rattle.sched_plain.specs.Tokens.{token_of}
use Rattle.sched_plain.specs.Attempts.{is_live_attempt}
use Rattle.sched_plain.specs.Standing.{standing_of}
use Rattle.sched_plain.specs.Seen.{Seen, ZonesSeen}
use Rattle.sched_plain.specs.Work.{Occurrence, first_open, completable, work}
use Rattle.plain_words.specs.declared.limits.TheConstants.{LONGEST_ZONE}

-- moments never fall, and a Boot has the moment of the step before it
abbrev pub moment_rule : ℕ → Step → Option Why
moment_rule last (steps.Boot at) = when (not (at.0 == last)) (whys.MomentBack (moment_of last))
moment_rule last s = when (nat_lt (at_of s) last) (whys.MomentBack (moment_of last))

-- an occurrence that has no entry
abbrev pub why_unentered : Option Occurrence → Option Why
why_unentered found = option_map (λ o. whys.Unentered o.inc o.instant) found

-- a Zone: of a new name, with bytes that are a zone, and nothing that it touches is unentered
abbrev pub zone_table : Bool → Bool → Option Occurrence → List (Option Why)
zone_table known readable found =
    when known whys.ZoneKnown ∷ when (not readable) whys.BadZone ∷ why_unentered found ∷ []

-- a Change: of a known zone, over schedules and groups that allow it, with a new token, and nothing that it
-- touches is unentered
abbrev pub change_table : Bool → Option RowFault → Option ℕ → Option Occurrence → List (Option Why)
change_table unknown fault kept found =
    when unknown whys.ZoneUnknown ∷ option_map whys.Row fault ∷ option_map whys.TokenKept kept ∷ why_unentered found ∷ []

-- the first of these pairs whose instant is not the one wanted at its place
abbrev pub first_astray : List Pair → List ℕ → Option ℕ
first_astray [] wanted = None
first_astray (pair ∷ pairs) [] = Some pair.instant
first_astray (pair ∷ pairs) (instant ∷ wanted) =
    if pair.instant == instant then first_astray pairs wanted else Some pair.instant

-- the chosen moment lies in the window, of so many minutes: at the instant itself where it has none
abbrev pub is_in_window : ℕ → Pair → Bool
is_in_window window pair =
    if window == 0 then pair.chosen == pair.instant
    else nat_le pair.instant pair.chosen && nat_lt pair.chosen (pair.instant + 60 * window)

-- the window of a content
abbrev pub window_of : Option Schedule → ℕ
window_of None = 0
window_of (Some content) = content.window

-- the first of these pairs whose chosen moment is outside the window at its instant
abbrev pub first_outside : (ℕ → Option Schedule) → List Pair → Option ℕ
first_outside content [] = None
first_outside content (pair ∷ pairs) =
    if is_in_window (window_of (content pair.instant)) pair then first_outside content pairs else Some pair.instant

-- an Enter: of the next occurrences, each with a moment in its window
abbrev pub enter_table : Option ℕ → Option ℕ → List (Option Why)
enter_table astray outside = option_map whys.NotNext astray ∷ option_map whys.OutsideWindow outside ∷ []

-- a Lease: a taking of a shard that no other worker holds, or a renewal by the taker
abbrev pub lease_table : Holder → ℕ → ℕ → ℕ → List (Option Why)
lease_table held at worker epoch =
    when (is_taking held epoch && is_held held at worker) (whys.Held held.worker held.until)
    ∷ when (not (is_taking held epoch || is_taker held worker epoch)) (whys.Stale held.epoch)
    ∷ []

-- a Release: by the taker
abbrev pub release_table : Holder → ℕ → ℕ → List (Option Why)
release_table held worker epoch = when (not (is_taker held worker epoch)) (whys.Stale held.epoch) ∷ []

-- the entry is due
abbrev pub unless_due : Standing → Option Why
unless_due standings.Due = None
unless_due standing = Some (whys.Standing standing)

-- a Begin: of an entry, under the shard's epoch, that is due, with the next number
abbrev pub begin_table : Holder → Option Filed → ℕ → ℕ → ℕ → ℕ → ℕ → List (Option Why)
begin_table held None at inc instant number epoch = Some (whys.Unentered inc instant) ∷ []
begin_table held (Some filed) at inc instant number epoch =
    when (not (epoch == held.epoch)) (whys.Stale held.epoch)
    ∷ unless_due (standing_of filed at)
    ∷ when (not (number == filed.entry.used + 1)) (whys.Number filed.entry.used)
    ∷ []

-- an End: of a live attempt
abbrev pub end_table : Option Filed → ℕ → List (Option Why)
end_table filed number = when (not (is_live_attempt filed number)) whys.NotLive ∷ []

-- two reasons are the same
abbrev pub same_reason : Reason → Reason → Bool
same_reason reasons.Attempts reasons.Attempts = true
same_reason reasons.Age reasons.Age = true
same_reason reason other = false

-- the entry is exhausted for this reason
abbrev pub unless_exhausted : Reason → Standing → Option Why
unless_exhausted reason (standings.Exhausted found) =
    when (not (same_reason reason found)) (whys.Standing (standings.Exhausted found))
unless_exhausted reason standing = Some (whys.Standing standing)

-- a Close: of an entry that is exhausted for its reason
abbrev pub close_table : Option Filed → ℕ → ℕ → ℕ → Reason → List (Option Why)
close_table None at inc instant reason = Some (whys.Unentered inc instant) ∷ []
close_table (Some filed) at inc instant reason = unless_exhausted reason (standing_of filed at) ∷ []

-- the shard has nothing to do
abbrev pub unless_settled : Work → Option Why
unless_settled works.Settled = None
unless_settled work = Some (whys.Work work)

-- the zone that a write's content names
abbrev pub zone_of : Write → Option (List ℕ)
zone_of (writes.CreateSchedule group name token content) = Some content.zone
zone_of (writes.UpdateSchedule group name token content) = Some content.zone
zone_of write = None

-- the zone has no bytes, and is not the one that is built in
abbrev pub is_zone_unknown : ZonesSeen → Option (List ℕ) → Bool
is_zone_unknown zones None = false
is_zone_unknown zones (Some zone) = not (is_utc zone) && is_none (zones.bytes zone)

-- the rules of the step's kind but for its moment's
abbrev pub kind_table : Seen → Step → List (Option Why)
kind_table v (steps.Boot at) = []
kind_table v (steps.Zone at name bytes) =
    zone_table (is_utc name || is_some (v.zones.bytes name)) (v.zones.readable bytes && nat_le (length bytes) LONGEST_ZONE)
    (first_open v.times at.0 (v.rows.rezoned name))
kind_table v (steps.Change at write) =
    change_table (is_zone_unknown v.zones (zone_of write)) (v.rows.fault write) (option_and_then v.kept (token_of write))
    (first_open v.times at.0 (v.rows.touched write))
kind_table v (steps.Enter at inc pairs) =
    enter_table (first_astray pairs (v.times.unentered inc at.0)) (first_outside (v.rows.content inc) pairs)
kind_table v (steps.Lease at shard worker epoch until) = lease_table (v.holder shard) at.0 worker epoch
kind_table v (steps.Release at shard worker epoch) = release_table (v.holder shard) worker epoch
kind_table v (steps.Begin at inc instant number epoch) =
    begin_table (v.holder (shard_of inc)) (v.ledger.filed inc instant) at.0 inc instant number epoch
kind_table v (steps.End at inc instant number verdict status) = end_table (v.ledger.filed inc instant) number
kind_table v (steps.Close at inc instant reason) = close_table (v.ledger.filed inc instant) at.0 inc instant reason
kind_table v (steps.Complete at inc) = when (not (completable v inc at.0)) whys.NotComplete ∷ []
kind_table v (steps.Swept at shard) = unless_settled (work v shard at.0) ∷ []

-- the first rule that a step breaks
abbrev pub rule : Seen → Step → Option Why
rule v s = first_some (moment_rule v.moment s ∷ kind_table v s)
