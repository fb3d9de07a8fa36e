-- Counts of attempts, and lengths of frames.
use Rattle.std.proofs.Common.{◌≡◌, refl, sym, ℕ, ◌+◌, ◌-◌, Bool, true, false, not, List, [], ◌∷◌, ◌++◌, length, map, Some, None, arith}
use Rattle.std.specs.Prelude.{if◌then◌else◌}
use Rattle.std.specs.List.{filter}
use Rattle.std.proofs.lemmas.List.{length-append}
use Rattle.plain_words.specs.Lists.{only_if}
use Rattle.std.proofs.lemmas.List.Filters.{length-filter_both}
use Rattle.plain_words.specs.declared.moment.Moment.{Moment}
use Rattle.plain_words.specs.declared.verdict.Verdict.{Verdict}
use Rattle.sched_plain.specs.declared.step.Step.{Step}
use Rattle.sched_plain.specs.declared.step.Step.TheVariants as steps
use Rattle.sched_plain.specs.History.{History}
use Rattle.sched_plain.specs.Entries.{is_lost_in}
use Rattle.sched_plain.specs.Ledger.{LedgerCall, Cancelled, Lost, ended_by, ledger_of}
use Rattle.sched_plain.specs.Changes.{changes_of}
use Rattle.sched_plain.specs.Rows.{rows_of}
use Rattle.ledger_rows.specs.declared.row.Flight.{Flight}
use Rattle.ledger_rows.specs.Air.{airborne, live_in}
use Rattle.live_attempts.specs.CountLaws.{live_count}
use Rattle.step_codec.specs.Payload.{payload_of}
use Rattle.step_journal.specs.Laws.{EndsAreShort}
use Rattle.step_journal.specs.Needs.{aloft_after}

pub ends_short : EndsAreShort
unfolding payload_of
ends_short at inc instant number verdict status = refl

-- where no shard is named all count
pub all_count : (flights : List Flight) → live_in None flights ≡ length flights
all_count [] = refl
all_count (f ∷ flights) = let same = all_count flights in omega (arith, same)

-- a Boot brings all down
pub none_left : (flights : List Flight) → length (filter {X = Flight} (λ f. not (is_lost_in None f.inc)) flights) ≡ 0
none_left [] = refl
none_left (f ∷ flights) = none_left flights

-- a taking brings those of its shard down
pub rest_left : (shard : ℕ) (flights : List Flight) → length (filter {X = Flight} (λ f. not (is_lost_in (Some shard) f.inc)) flights) ≡ length flights - live_in (Some shard) flights
rest_left shard flights =
    let parts = length-filter_both {X = Flight} (λ f. is_lost_in (Some shard) f.inc) (λ f. not (is_lost_in (Some shard) f.inc)) (λ f. refl) flights in omega (arith, parts)

-- a Lease brings those of its shard down where it is a taking
pub lease_left : (taking : Bool) (calls : List LedgerCall) (shard moment : ℕ)
    → length (airborne (only_if taking (Lost (Some shard) moment) ++ calls)) ≡ length (airborne calls) - (if taking then live_in (Some shard) (airborne calls) else 0)
lease_left true calls shard moment = rest_left shard (airborne calls)
lease_left false calls shard moment = omega arith

pub cancelled_left : (incs : List ℕ) (calls : List LedgerCall) → length (airborne (map Cancelled incs ++ calls)) ≡ length (airborne calls)
cancelled_left [] calls = refl
cancelled_left (inc ∷ incs) calls = cancelled_left incs calls

pub one_more : (inc instant number : ℕ) (flights : List Flight) → length flights + 1 ≡ length (flights ++ record { inc = inc; instant = instant; number = number } ∷ [])
one_more inc instant number flights = sym (length-append flights (record { inc = inc; instant = instant; number = number } ∷ []))

-- any other step leaves as many
pub rest_same : (h : History) (s : Step) → ((at : Moment) → s ≡ steps.Boot at → ⊥)
    → ((at : Moment) (shard worker epoch until : ℕ) → s ≡ steps.Lease at shard worker epoch until → ⊥)
    → ((at : Moment) (inc instant number epoch : ℕ) → s ≡ steps.Begin at inc instant number epoch → ⊥)
    → ((at : Moment) (inc instant number : ℕ) (verdict : Verdict) (status : ℕ) → s ≡ steps.End at inc instant number verdict status → ⊥)
    → live_count h ≡ aloft_after h s
rest_same h (steps.Boot at) boot lease begin end = absurd (boot at refl)
rest_same h (steps.Zone at name bytes) boot lease begin end = refl
rest_same h (steps.Change at write) boot lease begin end = sym (cancelled_left (ended_by (rows_of (changes_of h)) write) (ledger_of h))
rest_same h (steps.Enter at inc pairs) boot lease begin end = refl
rest_same h (steps.Lease at shard worker epoch until) boot lease begin end = absurd (lease at shard worker epoch until refl)
rest_same h (steps.Release at shard worker epoch) boot lease begin end = refl
rest_same h (steps.Begin at inc instant number epoch) boot lease begin end = absurd (begin at inc instant number epoch refl)
rest_same h (steps.End at inc instant number verdict status) boot lease begin end = absurd (end at inc instant number verdict status refl)
rest_same h (steps.Close at inc instant reason) boot lease begin end = refl
rest_same h (steps.Complete at inc) boot lease begin end = refl
rest_same h (steps.Swept at shard) boot lease begin end = refl
