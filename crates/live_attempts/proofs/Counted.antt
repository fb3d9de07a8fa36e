-- How a step changes the number of steps and of attempts in the air.
use Rattle.std.proofs.Common.{◌≡◌, ℕ, ◌+◌, ◌≤◌, ◌==◌, Bool, true, false, not, ◌||◌, Option, Some, None, List, [], ◌∷◌, ◌++◌, length, map, refl, arith}
use Rattle.std.specs.Prelude.{if◌then◌else◌}
use Rattle.std.specs.List.{filter, list_any}
use Rattle.std.proofs.lemmas.Bool.{and_parts, not-false}
use Rattle.std.proofs.lemmas.List.{length-append}
use Rattle.std.proofs.lemmas.List.Filters.{length-filter_both}
use Rattle.plain_words.specs.Lists.{only_if, some_pass}
use Rattle.plain_words.proofs.Booleans.{by_bool}
use Rattle.plain_words.proofs.ListLemmas.{all_none, when_none}
use Rattle.sched_plain.specs.declared.entry.Filed.{Filed}
use Rattle.sched_plain.specs.declared.step.Step.{Step}
use Rattle.sched_plain.specs.declared.step.Step.TheVariants as steps
use Rattle.sched_plain.specs.declared.why.Why.TheVariants as whys
use Rattle.sched_plain.specs.History.{History, ◌upon◌}
use Rattle.sched_plain.specs.Moments.{moment}
use Rattle.sched_plain.specs.Changes.{changes_of}
use Rattle.sched_plain.specs.Rows.{rows_of}
use Rattle.sched_plain.specs.Leases.{holder, is_taking}
use Rattle.sched_plain.specs.Ledger.{LedgerCall, Cancelled, Lost, ended_by, ledger_of}
use Rattle.sched_plain.specs.Attempts.{is_live_attempt, is_live_last}
use Rattle.sched_plain.specs.Entries.{filed, is_lost_in}
use Rattle.sched_plain.specs.Seen.{seen}
use Rattle.sched_plain.specs.Rules.{kind_table, moment_rule}
use Rattle.ledger_rows.specs.declared.row.Flight.{Flight}
use Rattle.ledger_rows.specs.Air.{airborne, flight_of, is_of}
use Rattle.ledger_rows.specs.State.{is_live_filed}
use Rattle.live_attempts.specs.CountLaws.{EndsPay, StepsAddTwo, live_count}
use Rattle.live_attempts.proofs.Aloft.{live_are_aloft}

-- so many attempts are in the air after these calls
abbrev flying : List LedgerCall → ℕ
flying calls = length (airborne calls)

-- some of them leave no more behind
left_fewer : (lands : Flight → Bool) (flights : List Flight) → length (filter (λ f. not (lands f)) flights) ≤ length flights
left_fewer lands flights =
    let parts = length-filter_both lands (λ f. not (lands f)) (λ f. refl) flights in omega (arith, parts)

cancelled_same : (incs : List ℕ) (calls : List LedgerCall) → flying (map Cancelled incs ++ calls) ≡ flying calls
cancelled_same [] calls = refl
cancelled_same (inc ∷ incs) calls = cancelled_same incs calls

taken_fewer : (taking : Bool) (calls : List LedgerCall) (shard moment : ℕ) → flying (only_if taking (Lost (Some shard) moment) ++ calls) ≤ flying calls
taken_fewer true calls shard moment = left_fewer (λ f. is_lost_in (Some shard) f.inc) (airborne calls)
taken_fewer false calls shard moment = omega arith

-- a step brings at most one more into the air
one_more : (h : History) (s : Step) → live_count (s upon h) ≤ live_count h + 1
one_more h (steps.Boot at) = let fewer = left_fewer (λ f. is_lost_in None f.inc) (airborne (ledger_of h)) in omega (arith, fewer)
one_more h (steps.Zone at name bytes) = omega arith
one_more h (steps.Change at write) =
    let same = cancelled_same (ended_by (rows_of (changes_of h)) write) (ledger_of h) in omega (arith, same)
one_more h (steps.Enter at inc pairs) = omega arith
one_more h (steps.Lease at shard worker epoch until) =
    let fewer = taken_fewer (is_taking (holder h shard) epoch) (ledger_of h) shard at.0 in omega (arith, fewer)
one_more h (steps.Release at shard worker epoch) = omega arith
one_more h (steps.Begin at inc instant number epoch) =
    let more = length-append (airborne (ledger_of h)) (flight_of inc instant number ∷ []) in omega (arith, more)
one_more h (steps.End at inc instant number verdict status) =
    let fewer = left_fewer (is_of inc instant) (airborne (ledger_of h)) in omega (arith, fewer)
one_more h (steps.Close at inc instant reason) = omega arith
one_more h (steps.Complete at inc) = omega arith
one_more h (steps.Swept at shard) = omega arith

pub steps_add_two : StepsAddTwo
steps_add_two h s = let more = one_more h s in omega (arith, more)

-- what is found is one at least
some_found : (test : Flight → Bool) (flights : List Flight) → list_any test flights ≡ true → 1 ≤ length (filter test flights)
some_found test [] found = cc found
some_found test (f ∷ flights) found =
    by_bool (λ b. (b || list_any test flights) ≡ true → 1 ≤ length (if b then f ∷ filter test flights else filter test flights)) (test f)
    (λ here any. omega arith) (λ other any. some_found test flights any) found

-- the attempt of an End is live
live_number : (filed : Option Filed) (number : ℕ) → is_live_attempt filed number ≡ true → some_pass is_live_filed filed ≡ true
live_number None number live = cc live
live_number (Some f) number live = (and_parts (number == f.entry.used) (is_live_last f.entry.last) live).1

pub ends_pay : EndsPay
ends_pay c h at inc instant number verdict status legal may =
    let s = steps.End at inc instant number verdict status in
    let o = filed (ledger_of h) inc instant in
    let rules = (all_none (moment_rule (moment h) s ∷ kind_table (seen c h) s) may).1 in
    let live : is_live_attempt o number ≡ true = not-false (is_live_attempt o number) (when_none (not (is_live_attempt o number)) whys.NotLive rules.0) in
    let found = some_found (is_of inc instant) (airborne (ledger_of h)) (live_are_aloft c h legal inc instant (live_number o number live)) in
    let parts = length-filter_both (is_of inc instant) (λ f. not (is_of inc instant f)) (λ f. refl) (airborne (ledger_of h)) in
    record { live = omega (arith, found, parts); same = omega (arith, found, parts) }
