-- Which entries are decided is of their outcomes alone, and the others are found by their numbers.
use Rattle.std.proofs.Common.{◌≡◌, ℕ, zero, suc, ◌+◌, ◌-◌, ◌≤◌, ◌<◌, Bool, true, false, Option, Some, None, List, [], ◌∷◌, length, get_or, set, refl, sym, ap, ◌∙◌, arith}
use Rattle.std.specs.Prelude.{nat_lt, is_some}
use Rattle.sched_plain.specs.declared.entry.Filed.{Filed}
use Rattle.sched_plain.specs.declared.outcome.Outcome.{Outcome}
use Rattle.sched_plain.specs.declared.outcome.Reason.{Reason}
use Rattle.sched_plain.specs.declared.standing.Standing.{Standing}
use Rattle.sched_plain.specs.declared.standing.Standing.TheVariants as standings
use Rattle.sched_plain.specs.Attempts.{is_live_last}
use Rattle.sched_plain.specs.Report.{number_of, one_more_if, is_done, is_final, is_closed_by_attempts, is_closed_by_age, is_cancelled}
use Rattle.sched_plain.specs.Standing.{standing_of, is_used_up, is_past_age, earliest}
use Rattle.ledger_rows.proofs.StandingLemmas.{stands_by}

-- a test that only decided entries pass
pub record IsOfDecided (test : Standing → Bool) : Type 0 where
  pub live : test standings.Live ≡ false
  pub exhausted : (reason : Reason) → test (standings.Exhausted reason) ≡ false
  pub waiting : (until : ℕ) → test (standings.Waiting until) ≡ false
  pub due : test standings.Due ≡ false

-- a test that no decided entry passes
abbrev pub IsOfOpen : (Standing → Bool) → Type 0
IsOfOpen test = (outcome : Outcome) → test (standings.Decided outcome) ≡ false

pub done_decided : IsOfDecided is_done
done_decided = record { live = refl; exhausted = λ reason. refl; waiting = λ until. refl; due = refl }

pub final_decided : IsOfDecided is_final
final_decided = record { live = refl; exhausted = λ reason. refl; waiting = λ until. refl; due = refl }

pub attempts_decided : IsOfDecided is_closed_by_attempts
attempts_decided = record { live = refl; exhausted = λ reason. refl; waiting = λ until. refl; due = refl }

pub age_decided : IsOfDecided is_closed_by_age
age_decided = record { live = refl; exhausted = λ reason. refl; waiting = λ until. refl; due = refl }

pub cancelled_decided : IsOfDecided is_cancelled
cancelled_decided = record { live = refl; exhausted = λ reason. refl; waiting = λ until. refl; due = refl }

open_not : (test : Standing → Bool) → IsOfDecided test → (live used past waits : Bool) (until : ℕ) → test (stands_by None live used past waits until) ≡ false
open_not test of true used past waits until = of.live
open_not test of false true past waits until = of.exhausted _
open_not test of false false true waits until = of.exhausted _
open_not test of false false false true until = of.waiting until
open_not test of false false false false until = of.due

-- what is not decided passes no such test
pub open_fails : (test : Standing → Bool) → IsOfDecided test → (f : Filed) (now : ℕ) → f.entry.outcome ≡ None → test (standing_of f now) ≡ false
open_fails test of f now e =
    ap (λ (o : Option Outcome). test (stands_by o (is_live_last f.entry.last) (is_used_up f.entry f.policy) (is_past_age f.entry f.policy now) (nat_lt now (earliest f.entry)) (earliest f.entry))) e
    ∙ open_not test of (is_live_last f.entry.last) (is_used_up f.entry f.policy) (is_past_age f.entry f.policy now) (nat_lt now (earliest f.entry)) (earliest f.entry)

decided_stands : (f : Filed) (now : ℕ) (o : Outcome) → f.entry.outcome ≡ Some o → standing_of f now ≡ standings.Decided o
decided_stands f now o e =
    ap (λ (o : Option Outcome). stands_by o (is_live_last f.entry.last) (is_used_up f.entry f.policy) (is_past_age f.entry f.policy now) (nat_lt now (earliest f.entry)) (earliest f.entry)) e

-- such a test is of the outcome alone
pub by_outcome : (test : Standing → Bool) → IsOfDecided test → (f g : Filed) (now then : ℕ) → f.entry.outcome ≡ g.entry.outcome → test (standing_of f now) ≡ test (standing_of g then)
by_outcome test of f g now then same = by f.entry.outcome refl
  where
    by : (o : Option Outcome) → f.entry.outcome ≡ o → test (standing_of f now) ≡ test (standing_of g then)
    by (Some o) e = ap test (decided_stands f now o e ∙ sym (decided_stands g then o (sym same ∙ e)))
    by None e = open_fails test of f now e ∙ sym (open_fails test of g then (sym same ∙ e))

-- what is decided passes no test of what is open
pub decided_fails : (test : Standing → Bool) → IsOfOpen test → (f : Filed) (now : ℕ) → is_some f.entry.outcome ≡ true → test (standing_of f now) ≡ false
decided_fails test of f now some = by f.entry.outcome refl
  where
    by : (o : Option Outcome) → f.entry.outcome ≡ o → test (standing_of f now) ≡ false
    by (Some o) e = ap test (decided_stands f now o e) ∙ of o
    by None e = let clash : false ≡ true = ap is_some (sym e) ∙ some in absurd (let bad : ⊥ = cc in bad)

-- a number of standings is at most their number
pub number_few : (test : Standing → Bool) (all : List Standing) → number_of test all ≤ length all
number_few test [] = omega arith
number_few test (s ∷ all) = by (test s) (number_of test all) (length all) (number_few test all)
  where
    by : (b : Bool) (n m : ℕ) → n ≤ m → one_more_if b n ≤ suc m
    by true n m le = omega (arith, le)
    by false n m le = omega (arith, le)

-- one standing of a list is in its number
pub number_has : (test : Standing → Bool) (all : List Standing) (p : ℕ) (d : Standing) → p < length all → number_of test (get_or all p d ∷ []) ≤ number_of test all
number_has test [] p d lt = absurd (omega (arith, lt))
number_has test (s ∷ all) zero d lt = by (test s) (number_of test all)
  where
    by : (b : Bool) (n : ℕ) → one_more_if b 0 ≤ one_more_if b n
    by true n = omega arith
    by false n = omega arith
number_has test (s ∷ all) (suc p) d lt = by (test s) (number_of test all) (number_has test all p d (omega (arith, lt)))
  where
    by : (b : Bool) (n : ℕ) → number_of test (get_or all p d ∷ []) ≤ n → number_of test (get_or all p d ∷ []) ≤ one_more_if b n
    by true n le = omega (arith, le)
    by false n le = le

-- one of them is another
pub number_set : (test : Standing → Bool) (all : List Standing) (p : ℕ) (s d : Standing) → p < length all
    → number_of test (set all p s) ≡ number_of test all - number_of test (get_or all p d ∷ []) + number_of test (s ∷ [])
number_set test [] p s d lt = absurd (omega (arith, lt))
number_set test (x ∷ all) zero s d lt = by (test x) (test s) (number_of test all)
  where
    by : (b c : Bool) (n : ℕ) → one_more_if c n ≡ one_more_if b n - one_more_if b 0 + one_more_if c 0
    by true true n = omega arith
    by true false n = omega arith
    by false true n = omega arith
    by false false n = omega arith
number_set test (x ∷ all) (suc p) s d lt =
    ap (one_more_if (test x)) (number_set test all p s d (omega (arith, lt)))
    ∙ by (test x) (number_of test all) (number_of test (get_or all p d ∷ [])) (number_of test (s ∷ [])) (number_has test all p d (omega (arith, lt)))
  where
    by : (b : Bool) (n out come : ℕ) → out ≤ n → one_more_if b (n - out + come) ≡ one_more_if b n - out + come
    by true n out come le = omega (arith, le)
    by false n out come le = refl
