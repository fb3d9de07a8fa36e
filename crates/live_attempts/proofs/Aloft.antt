-- Call by call, the attempt of each entry whose last attempt is live is in the air.
use Rattle.std.proofs.Common.{◌≡◌, ℕ, ◌==◌, Bool, true, false, not, ◌&&◌, ◌||◌, Option, Some, None, List, [], ◌∷◌, ◌++◌, find, map, option_map, refl, sym, ap, ◌∙◌, arith}
use Rattle.std.specs.Prelude.{if◌then◌else◌}
use Rattle.std.specs.List.{filter}
use Rattle.std.proofs.lemmas.Bool.Decides.{nat_tests}
use Rattle.std.proofs.lemmas.List.Folds.{list_any-append}
use Rattle.std.proofs.lemmas.Map.Views.{any-filter_same}
use Rattle.plain_words.specs.Lists.{only_if, or_else, some_pass}
use Rattle.plain_words.specs.declared.verdict.Verdict.{Verdict}
use Rattle.plain_words.specs.declared.verdict.Verdict.TheVariants as verdicts
use Rattle.plain_words.proofs.Booleans.{or_second}
use Rattle.sched_plain.specs.declared.entry.Entry.{Entry}
use Rattle.sched_plain.specs.declared.entry.Filed.{Filed}
use Rattle.sched_plain.specs.declared.entry.Last.{Last}
use Rattle.sched_plain.specs.declared.entry.Last.TheVariants as lasts
use Rattle.sched_plain.specs.declared.outcome.Outcome.TheVariants as outcomes
use Rattle.sched_plain.specs.declared.outcome.Reason.{Reason}
use Rattle.sched_plain.specs.declared.schedule.Policy.{Policy}
use Rattle.sched_plain.specs.declared.step.Pair.{Pair}
use Rattle.sched_plain.specs.declared.step.Step.TheVariants as steps
use Rattle.sched_plain.specs.History.{beginning, based, ◌upon◌}
use Rattle.sched_plain.specs.Changes.{changes_of}
use Rattle.sched_plain.specs.Rows.{rows_of}
use Rattle.sched_plain.specs.Leases.{holder, is_taking}
use Rattle.sched_plain.specs.Ledger.{LedgerCall, Entered, Begun, Finished, Closed, Cancelled, Lost, policy_of, ended_by, ledger_of}
use Rattle.sched_plain.specs.Attempts.{is_live_last}
use Rattle.sched_plain.specs.Entries.{changed_if, decided_as, filed, filed_by, is_lost_in, lost_last, new_entry, outcome_of, with_begin, with_end, with_loss}
use Rattle.ledger_rows.specs.declared.row.Flight.{Flight}
use Rattle.ledger_rows.specs.Air.{airborne, flight_of, is_flown, is_of}
use Rattle.ledger_rows.specs.State.{is_live_filed}
use Rattle.ledger_rows.proofs.FlightLemmas.{is_of_this}
use Rattle.live_attempts.specs.AirLaws.{AllAloft, LiveAreAloft}

-- a change that leaves the last attempt
live_kept : (b : Bool) (change : Entry → Entry) (o : Option Filed) → ((e : Entry) → is_live_last (change e).last ≡ is_live_last e.last)
    → some_pass is_live_filed (changed_if b change o) ≡ some_pass is_live_filed o
live_kept true change None same = refl
live_kept true change (Some f) same = same f.entry
live_kept false change o same = refl

-- a change after which no attempt is live
live_gone : (change : Entry → Entry) (o : Option Filed) → ((e : Entry) → is_live_last (change e).last ≡ false)
    → some_pass is_live_filed (changed_if true change o) ≡ false
live_gone change None gone = refl
live_gone change (Some f) gone = gone f.entry

ended_gone : (verdict : Verdict) (at : ℕ) (e : Entry) → is_live_last (with_end verdict at e).last ≡ false
ended_gone verdicts.Done at e = refl
ended_gone verdicts.Retry at e = refl
ended_gone verdicts.Final at e = refl

lost_gone : (at : ℕ) (last : Last) → is_live_last (lost_last at last) ≡ false
lost_gone at lasts.NoAttempt = refl
lost_gone at (lasts.Live begun) = refl
lost_gone at (lasts.Lost lost) = refl
lost_gone at (lasts.Ended ended) = refl

-- what is entered has no attempt yet
new_waits : (policy : Policy) (o : Option Filed) (found : Option Pair)
    → some_pass is_live_filed (or_else o (option_map {T = Pair} (λ pair. record { entry = new_entry pair.chosen; policy = policy }) found)) ≡ some_pass is_live_filed o
new_waits policy (Some f) found = refl
new_waits policy None None = refl
new_waits policy None (Some pair) = refl

entered_waits : (b : Bool) (policy : Policy) (pairs : List Pair) (instant : ℕ) (o : Option Filed)
    → some_pass is_live_filed (if b then or_else o (filed_by policy pairs instant) else o) ≡ some_pass is_live_filed o
entered_waits true policy pairs instant o = new_waits policy o (find {X = Pair} (λ pair. instant == pair.instant) pairs)
entered_waits false policy pairs instant o = refl

aloft_entered : (calls : List LedgerCall) (of : ℕ) (policy : Policy) (pairs : List Pair) → AllAloft calls → AllAloft (Entered of policy pairs ∷ calls)
aloft_entered calls of policy pairs all inc instant live =
    all inc instant (sym (entered_waits (inc == of) policy pairs instant (filed calls inc instant)) ∙ live)

aloft_closed : (calls : List LedgerCall) (of at : ℕ) (reason : Reason) → AllAloft calls → AllAloft (Closed of at reason ∷ calls)
aloft_closed calls of at reason all inc instant live =
    all inc instant (sym (live_kept (inc == of && instant == at) (decided_as (outcome_of reason)) (filed calls inc instant) (λ e. refl)) ∙ live)

aloft_cancelled : (calls : List LedgerCall) (of : ℕ) → AllAloft calls → AllAloft (Cancelled of ∷ calls)
aloft_cancelled calls of all inc instant live =
    all inc instant (sym (live_kept (inc == of) (decided_as outcomes.Cancelled) (filed calls inc instant) (λ e. refl)) ∙ live)

all_cancelled : (incs : List ℕ) (calls : List LedgerCall) → AllAloft calls → AllAloft (map Cancelled incs ++ calls)
all_cancelled [] calls all = all
all_cancelled (inc ∷ incs) calls all = aloft_cancelled (map Cancelled incs ++ calls) inc (all_cancelled incs calls all)

-- what is begun is in the air
begun_flies : (this was : Bool) (at : ℕ) (o : Option Filed) → (some_pass is_live_filed o ≡ true → was ≡ true)
    → some_pass is_live_filed (changed_if this (with_begin at) o) ≡ true → (was || (this || false)) ≡ true
begun_flies true was at o flies live = or_second was true refl
begun_flies false was at o flies live = ap (λ b. b || false) (flies live)

aloft_begun : (calls : List LedgerCall) (of at number epoch moment : ℕ) → AllAloft calls → AllAloft (Begun of at number epoch moment ∷ calls)
aloft_begun calls of at number epoch moment all inc instant live =
    list_any-append (is_of inc instant) (airborne calls) (flight_of of at number ∷ [])
    ∙ begun_flies (inc == of && instant == at) (is_flown (airborne calls) inc instant) moment (filed calls inc instant) (all inc instant) live

-- those that land are live no more
landed : (gone was : Bool) (change : Entry → Entry) (o : Option Filed) → ((e : Entry) → is_live_last (change e).last ≡ false)
    → (some_pass is_live_filed o ≡ true → was ≡ true) → some_pass is_live_filed (changed_if gone change o) ≡ true → (not gone && was) ≡ true
landed true was change o ends flies live = sym (live_gone change o ends) ∙ live
landed false was change o ends flies live = flies live

aloft_landed : (gone : Bool) (change : Entry → Entry) (flights : List Flight) (o : Option Filed) (lands : Flight → Bool) (inc instant : ℕ)
    → ((e : Entry) → is_live_last (change e).last ≡ false) → ((f : Flight) → is_of inc instant f ≡ true → lands f ≡ gone)
    → (some_pass is_live_filed o ≡ true → is_flown flights inc instant ≡ true)
    → some_pass is_live_filed (changed_if gone change o) ≡ true → is_flown (filter (λ f. not (lands f)) flights) inc instant ≡ true
aloft_landed gone change flights o lands inc instant ends tells flies live =
    any-filter_same (is_of inc instant) (λ f. not (lands f)) (not gone) (λ f e. ap not (tells f e)) flights
    ∙ landed gone (is_flown flights inc instant) change o ends flies live

same_test : (inc of instant at : ℕ) → (of == inc && at == instant) ≡ (inc == of && instant == at)
same_test inc of instant at =
    let a : (of == inc) ≡ (inc == of) = grind (arith, nat_tests) in
    let b : (at == instant) ≡ (instant == at) = grind (arith, nat_tests) in
    rw (a, b) refl

aloft_finished : (calls : List LedgerCall) (of at number : ℕ) (verdict : Verdict) (status moment : ℕ) → AllAloft calls
    → AllAloft (Finished of at number verdict status moment ∷ calls)
aloft_finished calls of at number verdict status moment all inc instant live =
    aloft_landed (inc == of && instant == at) (with_end verdict moment) (airborne calls) (filed calls inc instant) (is_of of at) inc instant
    (ended_gone verdict moment)
    (λ f e. let is = is_of_this inc instant f e in
    sym (ap (λ i. of == i && at == instant) is.0 ∙ ap (λ k. of == f.inc && at == k) is.1) ∙ same_test inc of instant at)
    (all inc instant) live

aloft_lost : (calls : List LedgerCall) (shard : Option ℕ) (moment : ℕ) → AllAloft calls → AllAloft (Lost shard moment ∷ calls)
aloft_lost calls shard moment all inc instant live =
    aloft_landed (is_lost_in shard inc) (with_loss moment) (airborne calls) (filed calls inc instant) (λ f. is_lost_in shard f.inc) inc instant
    (λ e. lost_gone moment e.last) (λ f e. ap (is_lost_in shard) (sym (is_of_this inc instant f e).0)) (all inc instant) live

lost_if : (taking : Bool) (calls : List LedgerCall) (shard moment : ℕ) → AllAloft calls → AllAloft (only_if taking (Lost (Some shard) moment) ++ calls)
lost_if true calls shard moment all = aloft_lost calls (Some shard) moment all
lost_if false calls shard moment all = all

pub live_are_aloft : LiveAreAloft
live_are_aloft c beginning legal = λ inc instant live. cc live
live_are_aloft c (based b kept) legal = absurd legal
live_are_aloft c (steps.Boot at upon h) legal = aloft_lost (ledger_of h) None at.0 (live_are_aloft c h legal.0)
live_are_aloft c (steps.Zone at name bytes upon h) legal = live_are_aloft c h legal.0
live_are_aloft c (steps.Change at write upon h) legal =
    all_cancelled (ended_by (rows_of (changes_of h)) write) (ledger_of h) (live_are_aloft c h legal.0)
live_are_aloft c (steps.Enter at inc pairs upon h) legal =
    aloft_entered (ledger_of h) inc (policy_of (rows_of (changes_of h)) inc pairs) pairs (live_are_aloft c h legal.0)
live_are_aloft c (steps.Lease at shard worker epoch until upon h) legal =
    lost_if (is_taking (holder h shard) epoch) (ledger_of h) shard at.0 (live_are_aloft c h legal.0)
live_are_aloft c (steps.Release at shard worker epoch upon h) legal = live_are_aloft c h legal.0
live_are_aloft c (steps.Begin at inc instant number epoch upon h) legal =
    aloft_begun (ledger_of h) inc instant number epoch at.0 (live_are_aloft c h legal.0)
live_are_aloft c (steps.End at inc instant number verdict status upon h) legal =
    aloft_finished (ledger_of h) inc instant number verdict status at.0 (live_are_aloft c h legal.0)
live_are_aloft c (steps.Close at inc instant reason upon h) legal = aloft_closed (ledger_of h) inc instant reason (live_are_aloft c h legal.0)
live_are_aloft c (steps.Complete at inc upon h) legal = live_are_aloft c h legal.0
live_are_aloft c (steps.Swept at shard upon h) legal = live_are_aloft c h legal.0
