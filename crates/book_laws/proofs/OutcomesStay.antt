-- An outcome stays: no call of the ledger changes one.
use Rattle.std.proofs.Common.{◌≡◌, ℕ, ◌+◌, ◌<◌, ◌≤◌, ◌==◌, Bool, true, false, cond, ◌&&◌, Option, Some, None, List, ◌∷◌, refl, sym, ap, ◌∙◌, inl, inr, arith}
use Rattle.std.specs.Option.{option_and_then}
use Rattle.std.proofs.lemmas.Bool.{cases_order, eq-eqb, and_from}
use Rattle.sched_plain.specs.declared.entry.Entry.{Entry}
use Rattle.sched_plain.specs.declared.entry.Filed.{Filed}
use Rattle.plain_words.specs.declared.moment.Moment.{Moment}
use Rattle.sched_plain.specs.declared.step.Step.{Step}
use Rattle.sched_plain.specs.declared.step.Step.TheVariants as steps
use Rattle.sched_plain.specs.declared.outcome.Outcome.{Outcome}
use Rattle.sched_plain.specs.declared.outcome.Outcome.TheVariants as outcomes
use Rattle.sched_plain.specs.declared.outcome.Reason.{Reason}
use Rattle.plain_words.specs.declared.verdict.Verdict.{Verdict}
use Rattle.plain_words.specs.declared.verdict.Verdict.TheVariants as verdicts
use Rattle.sched_plain.specs.History.{History, ◌upon◌, first, as_it_was, with_step}
use Rattle.plain_words.specs.Lists.{or_else}
use Rattle.sched_plain.specs.Ledger.{LedgerCall, Entered, Begun, Finished, Closed, Cancelled, Lost, ledger_of, Missed}
use Rattle.sched_plain.specs.Entries.{decided_as, with_begin, with_end, outcome_of, with_loss, changed_if, is_lost_in, filed_by, filed, with_missed}
use Rattle.sched_plain.specs.Standing.{standing_of}
use Rattle.sched_plain.specs.Rules.{close_table}
use Rattle.sched_plain.specs.Legal.{MayFollow}
use Rattle.plain_words.proofs.ListLemmas.{AllNone}
use Rattle.book_laws.specs.OutcomeLaws.{decision, OutcomesStay, DecidesAt, DecidedOnce, ClosesDecide}
use Rattle.book_laws.proofs.Tables.{kind_holds}
use Rattle.book_laws.proofs.FirstSteps.{first_extends}
use Rattle.book_laws.proofs.NewCalls.{new_calls, ledger_is, calls_keep}
use Rattle.book_laws.proofs.Standings.{exhausted_says, exhausted_is}

-- the outcome of what is filed
abbrev pub decided : Option Filed → Option Outcome
decided f = option_and_then (λ x. x.entry.outcome) f

-- an edit that leaves an outcome
abbrev LeavesOutcome : (Entry → Entry) → Outcome → Type 0
LeavesOutcome change outcome = (e : Entry) → e.outcome ≡ Some outcome → (change e).outcome ≡ Some outcome

edit_stays : (b : Bool) (change : Entry → Entry) (outcome : Outcome) → LeavesOutcome change outcome → (f : Option Filed)
    → decided f ≡ Some outcome → decided (changed_if b change f) ≡ Some outcome
edit_stays true change outcome leaves None is = is
edit_stays true change outcome leaves (Some f) is = leaves f.entry is
edit_stays false change outcome leaves f is = is

decided_leaves : (new outcome : Outcome) → LeavesOutcome (decided_as new) outcome
decided_leaves new outcome e is = ap (λ o. or_else o (Some new)) is

end_leaves : (verdict : Verdict) (moment : ℕ) (outcome : Outcome) → LeavesOutcome (with_end verdict moment) outcome
end_leaves verdicts.Done moment outcome e is = ap (λ o. or_else o (Some outcomes.Done)) is
end_leaves verdicts.Retry moment outcome e is = is
end_leaves verdicts.Final moment outcome e is = ap (λ o. or_else o (Some outcomes.Final)) is

missed_stays : (b : Bool) (moment : ℕ) (e : Entry) → (cond b (with_loss moment e) e).outcome ≡ e.outcome
missed_stays true moment e = refl
missed_stays false moment e = refl

entered_stays : (b : Bool) (old new : Option Filed) (outcome : Outcome) → decided old ≡ Some outcome
    → decided (cond b (or_else old new) old) ≡ Some outcome
entered_stays true None new outcome is = let clash : ⊥ = cc in absurd clash
entered_stays true (Some f) new outcome is = is
entered_stays false old new outcome is = is

call_stays : (inc i : ℕ) (outcome : Outcome) (call : LedgerCall) (before : List LedgerCall) → decided (filed before inc i) ≡ Some outcome
    → decided (filed (call ∷ before) inc i) ≡ Some outcome
call_stays inc i outcome (Entered of policy pairs) before is = entered_stays (inc == of) (filed before inc i) (filed_by policy pairs i) outcome is
call_stays inc i outcome (Begun of at number epoch moment) before is =
    edit_stays (inc == of && i == at) (with_begin moment) outcome (λ e stays. stays) (filed before inc i) is
call_stays inc i outcome (Finished of at number verdict status moment) before is =
    edit_stays (inc == of && i == at) (with_end verdict moment) outcome (end_leaves verdict moment outcome) (filed before inc i) is
call_stays inc i outcome (Closed of at reason) before is =
    edit_stays (inc == of && i == at) (decided_as (outcome_of reason)) outcome (decided_leaves (outcome_of reason) outcome) (filed before inc i) is
call_stays inc i outcome (Cancelled of) before is =
    edit_stays (inc == of) (decided_as outcomes.Cancelled) outcome (decided_leaves outcomes.Cancelled outcome) (filed before inc i) is
call_stays inc i outcome (Lost shard moment) before is =
    edit_stays (is_lost_in shard inc) (with_loss moment) outcome (λ e stays. stays) (filed before inc i) is
call_stays inc i outcome (Missed of at number moment) before is =
    edit_stays (inc == of && i == at) (with_missed number moment) outcome
    (λ e stays. missed_stays (number == e.used) moment e ∙ stays) (filed before inc i) is

step_stays : (h : History) (s : Step) (inc i : ℕ) (outcome : Outcome) → decision h inc i ≡ Some outcome → decision (s upon h) inc i ≡ Some outcome
step_stays h s inc i outcome is =
    ap (λ calls. decided (filed calls inc i)) (ledger_is h s)
    ∙ calls_keep (λ calls. decided (filed calls inc i) ≡ Some outcome) (call_stays inc i outcome) (new_calls h s) (ledger_of h) is

pub outcomes_stay : OutcomesStay
outcomes_stay h later as_it_was inc i outcome is = is
outcomes_stay h later (with_step {later = before} s more) inc i outcome is =
    step_stays before s inc i outcome (outcomes_stay h before more inc i outcome is)

not_twice : (h : History) (inc i one later : ℕ) → DecidesAt h one inc i → DecidesAt h later inc i → one < later → ⊥
not_twice h inc i one later first_time second_time lt =
    let up : one + 1 ≤ later = omega arith in
    let there : decision (first later h) inc i ≡ Some first_time.outcome =
    outcomes_stay (first (one + 1) h) (first later h) (first_extends (one + 1) later h up) inc i first_time.outcome first_time.after in
    let clash : Some first_time.outcome ≡ None = sym there ∙ second_time.before in
    cc

pub decided_once : DecidedOnce
decided_once h inc i one other first_time second_time =
    elim (cases_order one other) [
      | inl same ↦ same
      | inr apart ↦
          elim apart [
            | inl lt ↦ absurd (not_twice h inc i one other first_time second_time lt)
            | inr gt ↦ absurd (not_twice h inc i other one second_time first_time gt)
          ]
    ]

-- what a Close closes is there and open
abbrev pub IsOpenEntry : Option Filed → Type 0
IsOpenEntry None = ⊥
IsOpenEntry (Some f) = f.entry.outcome ≡ None

closed_open : (f : Option Filed) (at inc i : ℕ) (reason : Reason) → AllNone (close_table f at inc i reason) → IsOpenEntry f
closed_open None at inc i reason all = let none = all.0 in let clash : ⊥ = cc in absurd clash
closed_open (Some f) at inc i reason all =
    (exhausted_says f.entry f.policy at reason (exhausted_is reason (standing_of f at) all.0)).undecided

pub close_open : (c : _) (h : History) (at : Moment) (inc i : ℕ) (reason : Reason) → MayFollow c h (steps.Close at inc i reason)
    → IsOpenEntry (filed (ledger_of h) inc i)
close_open c h at inc i reason may = closed_open (filed (ledger_of h) inc i) at.0 inc i reason (kind_holds c h (steps.Close at inc i reason) may)

pub open_none : (f : Option Filed) → IsOpenEntry f → decided f ≡ None
open_none None is = absurd is
open_none (Some f) is = is

pub closed_is : (outcome : Outcome) (f : Option Filed) → IsOpenEntry f → decided (changed_if true (decided_as outcome) f) ≡ Some outcome
closed_is outcome None is = absurd is
closed_is outcome (Some f) is = ap (λ o. or_else o (Some outcome)) is

pub closes_decide : ClosesDecide
closes_decide c h at inc i reason legal =
    let is = close_open c h at inc i reason legal.1 in
    let here : (inc == inc && i == i) ≡ true = and_from (inc == inc) (i == i) (eq-eqb inc inc refl) (eq-eqb i i refl) in
    record {
      before = open_none (filed (ledger_of h) inc i) is;
      after =
          ap (λ b. decided (changed_if b (decided_as (outcome_of reason)) (filed (ledger_of h) inc i))) here
          ∙ closed_is (outcome_of reason) (filed (ledger_of h) inc i) is;
    }
