-- What a Release, a Complete, a Swept, a Begin and an End may be denied for, at a moment that is no earlier than the last one.
use Rattle.std.proofs.Common.{◌≡◌, ℕ, ◌+◌, ◌≤◌, Bool, true, false, Option, Some, None, [], ◌∷◌, refl, subst, arith, eq-eqb}
use Rattle.std.specs.Prelude.{◌==◌, ◌&&◌, ◌||◌, not, nat_lt, is_some}
use Rattle.std.proofs.lemmas.Bool.Decides.{nat_tests}
use Rattle.plain_words.specs.declared.verdict.Verdict.{Verdict}
use Rattle.plain_words.specs.Ids.{shard_of}
use Rattle.sched_plain.specs.declared.entry.Filed.{Filed}
use Rattle.sched_plain.specs.declared.holder.Holder.{Holder}
use Rattle.sched_plain.specs.declared.standing.Standing.{Standing}
use Rattle.sched_plain.specs.declared.standing.Standing.TheVariants as standings
use Rattle.sched_plain.specs.Ledger.{ledger_of}
use Rattle.sched_plain.specs.Entries.{filed}
use Rattle.sched_plain.specs.Attempts.{is_live_attempt}
use Rattle.sched_plain.specs.Standing.{standing_of}
use Rattle.sched_plain.specs.Legal.{why, MayFollow}
use Rattle.sched_calls.specs.Serves.{number_after}
use Rattle.sweep_laws.proofs.Follow.{on_time}
use Rattle.durable_book.specs.declared.ticket.Ticket.{Ticket}
use Rattle.durable_book.specs.Causes.{IsUnended}
use Rattle.plain_words.specs.Lists.{first_some, when}
use Rattle.plain_words.specs.Moments.{moment_of}
use Rattle.sched_plain.specs.declared.step.Step.{Step}
use Rattle.sched_plain.specs.declared.why.Why.{Why}
use Rattle.sched_plain.specs.declared.why.Why.TheVariants as whys
use Rattle.sched_plain.specs.declared.work.Work.{Work}
use Rattle.sched_plain.specs.declared.work.Work.TheVariants as works
use Rattle.sched_plain.specs.History.{History}
use Rattle.sched_plain.specs.Leases.{holder, is_held, is_taker, is_taking}
use Rattle.sched_plain.specs.Moments.{moment}
use Rattle.sched_plain.specs.Rules.{begin_table, unless_due, unless_settled}
use Rattle.sched_plain.specs.Seen.{seen}
use Rattle.sched_plain.specs.Work.{work, completable}
use Rattle.book_parts.specs.Stands.{calendar}
use Rattle.durable_book.specs.declared.denial.Denial.{Denial}
use Rattle.durable_book.specs.declared.denial.Denial.TheVariants as denials
use Rattle.durable_book.specs.Acts.{IsCause}
use Rattle.durable_book.specs.Faults.{IsOfBeginning, IsOfCompleting, IsOfEnding, IsOfHolding, IsOfSweeping, ended_for}
use Rattle.durable_book.specs.Steps.{HasEntry, begin_with, complete_of, end_with, release_by, renewal_by, swept_of}
use Rattle.durable_book.proofs.TakingLemmas.{in_time}

-- of two rules the second alone is broken where the first is not
one_rule : (P : Why → Type 0) (late broken : Bool) (last one w : Why) → late ≡ false → P one
    → first_some (when late last ∷ when broken one ∷ []) ≡ Some w → P w
one_rule P true broken last one w on_time is e = cc on_time
one_rule P false true last one w on_time is e = let same : one ≡ w = cc e in subst P same is
one_rule P false false last one w on_time is e = cc e

pub release_denied : (full : Step → ℕ → ℕ → Type 0) (h : History) (t shard worker epoch : ℕ) (denial : Denial) → moment h ≤ t
    → IsCause full (release_by t shard worker epoch) denial h → IsOfHolding denial
release_denied full h t shard worker epoch (denials.Rule w) early cause =
    one_rule (λ x. IsOfHolding (denials.Rule x)) (nat_lt t (moment h)) (not (is_taker (holder h shard) worker epoch)) (whys.MomentBack (moment_of (moment h))) (whys.Stale (holder h shard).epoch) w
    (in_time (moment h) t early) tt cause
release_denied full h t shard worker epoch (denials.Full end need) early cause = tt
release_denied full h t shard worker epoch denials.DiskFault early cause = tt
release_denied full h t shard worker epoch denials.OutOfMemory early cause = tt

pub complete_denied : (full : Step → ℕ → ℕ → Type 0) (h : History) (t inc : ℕ) (denial : Denial) → moment h ≤ t
    → IsCause full (complete_of t inc) denial h → IsOfCompleting denial
complete_denied full h t inc (denials.Rule w) early cause =
    one_rule (λ x. IsOfCompleting (denials.Rule x)) (nat_lt t (moment h)) (not (completable (seen calendar h) inc t)) (whys.MomentBack (moment_of (moment h))) whys.NotComplete w
    (in_time (moment h) t early) tt cause
complete_denied full h t inc (denials.Full end need) early cause = tt
complete_denied full h t inc denials.DiskFault early cause = tt
complete_denied full h t inc denials.OutOfMemory early cause = tt

work_rule : (late : Bool) (last w : Why) (next : Work) → late ≡ false → first_some (when late last ∷ unless_settled next ∷ []) ≡ Some w → IsOfSweeping (denials.Rule w)
work_rule true last w next on_time e = cc on_time
work_rule false last w works.Settled on_time e = cc e
work_rule false last w (works.Enter inc) on_time e = let same : whys.Work (works.Enter inc) ≡ w = cc e in subst (λ x. IsOfSweeping (denials.Rule x)) same tt
work_rule false last w (works.Close inc instant reason) on_time e = let same : whys.Work (works.Close inc instant reason) ≡ w = cc e in subst (λ x. IsOfSweeping (denials.Rule x)) same tt
work_rule false last w (works.Begin inc instant) on_time e = let same : whys.Work (works.Begin inc instant) ≡ w = cc e in subst (λ x. IsOfSweeping (denials.Rule x)) same tt
work_rule false last w (works.Complete inc) on_time e = let same : whys.Work (works.Complete inc) ≡ w = cc e in subst (λ x. IsOfSweeping (denials.Rule x)) same tt
work_rule false last w (works.Live inc instant) on_time e = let same : whys.Work (works.Live inc instant) ≡ w = cc e in subst (λ x. IsOfSweeping (denials.Rule x)) same tt

pub swept_denied : (full : Step → ℕ → ℕ → Type 0) (h : History) (t shard : ℕ) (denial : Denial) → moment h ≤ t
    → IsCause full (swept_of t shard) denial h → IsOfSweeping denial
swept_denied full h t shard (denials.Rule w) early cause =
    work_rule (nat_lt t (moment h)) (whys.MomentBack (moment_of (moment h))) w (work (seen calendar h) shard t) (in_time (moment h) t early) cause
swept_denied full h t shard (denials.Full end need) early cause = tt
swept_denied full h t shard denials.DiskFault early cause = tt
swept_denied full h t shard denials.OutOfMemory early cause = tt

-- ---- an attempt

of_standing : (s : Standing) (w : Why) → whys.Standing s ≡ w → IsOfBeginning (denials.Rule w)
of_standing s w e = subst (λ x. IsOfBeginning (denials.Rule x)) e tt

begin_rules : (fresh same : Bool) (s : Standing) (epoch used : ℕ) (w : Why) → same ≡ true
    → first_some (when (not fresh) (whys.Stale epoch) ∷ unless_due s ∷ when (not same) (whys.Number used) ∷ []) ≡ Some w → IsOfBeginning (denials.Rule w)
begin_rules false same s epoch used w is e = let found : whys.Stale epoch ≡ w = cc e in subst (λ x. IsOfBeginning (denials.Rule x)) found tt
begin_rules true false standings.Due epoch used w is e = absurd cc
begin_rules true true standings.Due epoch used w is e = absurd cc
begin_rules true same (standings.Decided outcome) epoch used w is e = of_standing (standings.Decided outcome) w cc
begin_rules true same standings.Live epoch used w is e = of_standing standings.Live w cc
begin_rules true same (standings.Exhausted reason) epoch used w is e = of_standing (standings.Exhausted reason) w cc
begin_rules true same (standings.Waiting until) epoch used w is e = of_standing (standings.Waiting until) w cc

begin_case : (late : Bool) (last : Why) (held : Holder) (o : Option Filed) (t inc instant epoch : ℕ) (w : Why) → late ≡ false → is_some o ≡ true
    → first_some (when late last ∷ begin_table held o t inc instant (number_after o) epoch) ≡ Some w → IsOfBeginning (denials.Rule w)
begin_case true last held o t inc instant epoch w on there e = absurd cc
begin_case false last held None t inc instant epoch w on there e = absurd cc
begin_case false last held (Some f) t inc instant epoch w on there e =
    begin_rules (epoch == held.epoch) (f.entry.used + 1 == f.entry.used + 1) (standing_of f t) held.epoch f.entry.used w (eq-eqb (f.entry.used + 1) (f.entry.used + 1) refl) e

pub begin_denied : (full : Step → ℕ → ℕ → Type 0) (h : History) (t inc instant epoch : ℕ) (denial : Denial) → moment h ≤ t → HasEntry inc instant h
    → IsCause full (begin_with h t inc instant epoch) denial h → IsOfBeginning denial
begin_denied full h t inc instant epoch (denials.Rule w) early there cause =
    begin_case (nat_lt t (moment h)) (whys.MomentBack (moment_of (moment h))) (holder h (shard_of inc)) (filed (ledger_of h) inc instant) t inc instant epoch w
    (in_time (moment h) t early) there cause
begin_denied full h t inc instant epoch (denials.Full end need) early there cause = tt
begin_denied full h t inc instant epoch denials.DiskFault early there cause = tt
begin_denied full h t inc instant epoch denials.OutOfMemory early there cause = tt

-- an End that is denied for a rule is of an attempt that is not live
pub end_denied : (full : Step → ℕ → ℕ → Type 0) (h : History) (t : ℕ) (ticket : Ticket) (verdict : Verdict) (status epoch : ℕ) (denial : Denial) → moment h ≤ t
    → IsOfEnding denial → epoch ≡ (holder h (shard_of ticket.inc)).epoch → IsCause full (end_with t ticket verdict status) denial h
    → IsUnended t ticket verdict status (ended_for denial epoch) h
end_denied full h t ticket verdict status epoch (denials.Rule w) early ends is cause =
    let lived = is_live_attempt (filed (ledger_of h) ticket.inc ticket.instant) ticket.number in
    let live : w ≡ whys.NotLive = one_rule (λ x. x ≡ whys.NotLive) (nat_lt t (moment h)) (not lived) (whys.MomentBack (moment_of (moment h))) whys.NotLive w
    (in_time (moment h) t early) refl cause in
    (subst (λ (x : Why). why calendar h (end_with t ticket verdict status) ≡ Some x) live cause, is)
end_denied full h t ticket verdict status epoch (denials.Full end need) early ends is cause = absurd ends
end_denied full h t ticket verdict status epoch denials.DiskFault early ends is cause = tt
end_denied full h t ticket verdict status epoch denials.OutOfMemory early ends is cause = absurd ends

-- ---- a renewal

renewal_case : (taking held taker : Bool) (one two : Why) → taking ≡ false → taker ≡ true
    → first_some (when (taking && held) one ∷ when (not (taking || taker)) two ∷ []) ≡ None
renewal_case true held taker one two same last = absurd cc
renewal_case false held true one two same last = refl
renewal_case false held false one two same last = absurd cc

-- the last taker's epoch is not the next one
not_taking : (held : Holder) (worker epoch : ℕ) → is_taker held worker epoch ≡ true → is_taking held epoch ≡ false
not_taking held worker epoch taker = grind (arith, nat_tests)

-- a lease may be renewed by the last taker
pub renewal_may : (h : History) (t shard worker epoch : ℕ) → moment h ≤ t → is_taker (holder h shard) worker epoch ≡ true
    → MayFollow calendar h (renewal_by t shard worker epoch)
renewal_may h t shard worker epoch early taker =
    let held = holder h shard in
    on_time (moment h) t _ _ early
    (renewal_case (is_taking held epoch) (is_held held t worker) (is_taker held worker epoch) _ _ (not_taking held worker epoch taker) taker)
