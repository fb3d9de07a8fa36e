-- What a Close and an attempt make of what an entry weighs, and so of what a shard weighs.
use Rattle.std.proofs.Common.{◌≡◌, ℕ, ◌+◌, ◌*◌, ◌-◌, ◌^◌, ◌<◌, ◌≤◌, Bool, true, false, cond, Option, Some, None, List, [], ◌∷◌, length, refl, ap, sym, subst, arith, eq-eqb}
use Rattle.std.specs.Prelude.{◌==◌, ◌&&◌, nat_le, nat_lt, min, is_some}
use Rattle.std.specs.Option.{option_map, option_and_then}
use Rattle.std.proofs.lemmas.Bool.{and_parts, eqb-true}
use Rattle.std.proofs.lemmas.Bool.Decides.{nat_tests}
use Rattle.std.proofs.lemmas.Nat.{pow_pos}
use Rattle.sched_plain.specs.declared.entry.Filed.{Filed}
use Rattle.sched_plain.specs.declared.standing.Standing.{Standing}
use Rattle.sched_plain.specs.declared.standing.Standing.TheVariants as standings
use Rattle.sched_plain.specs.declared.step.Pair.{Pair}
use Rattle.sched_plain.specs.declared.outcome.Outcome.{Outcome}
use Rattle.sched_plain.specs.declared.outcome.Outcome.TheVariants as outcomes
use Rattle.sched_plain.specs.declared.outcome.Reason.{Reason}
use Rattle.sched_plain.specs.declared.outcome.Reason.TheVariants as reasons
use Rattle.plain_words.specs.declared.verdict.Verdict.{Verdict}
use Rattle.plain_words.specs.declared.verdict.Verdict.TheVariants as verdicts
use Rattle.sched_plain.specs.declared.work.Work.{Work}
use Rattle.sched_plain.specs.declared.work.Work.TheVariants as works
use Rattle.plain_words.specs.Lists.{first_some, first_answer, when, or_else}
use Rattle.sched_plain.specs.Changes.{changes_of}
use Rattle.sched_plain.specs.Rows.{rows_of, current}
use Rattle.sched_plain.specs.Ledger.{ledger_of}
use Rattle.sched_plain.specs.Entries.{entries, filed, changed_if, on_entry, with_begin, with_end, decided_as, outcome_of}
use Rattle.sched_plain.specs.Marks.{unentered}
use Rattle.sched_plain.specs.Standing.{delay, or_due, is_used_up, is_past_age, is_used_up, standing_of}
use Rattle.sched_plain.specs.Seen.{seen}
use Rattle.sched_plain.specs.Work.{act_of, wanted_by, of_shard}
use Rattle.sweep_laws.specs.LoadLaws.{sum_over, act_weight, weight_of, weight_in, living_weight, ClosesLessen, AttemptsLessen}
use Rattle.sweep_laws.proofs.Found.{work_found, acting_asks}
use Rattle.sweep_laws.proofs.Sums.{sum_fewer, sum_less}

-- work weighs at least 1, and at most 2
some_weighs : (w : Work) → 0 < act_weight (Some w)
some_weighs (works.Enter inc) = omega arith
some_weighs (works.Close inc instant reason) = omega arith
some_weighs (works.Begin inc instant) = omega arith
some_weighs (works.Complete inc) = omega arith
some_weighs (works.Live inc instant) = omega arith
some_weighs works.Settled = omega arith

pub light : (o : Option Work) → act_weight o ≤ 2
light None = omega arith
light (Some (works.Enter inc)) = omega arith
light (Some (works.Close inc instant reason)) = omega arith
light (Some (works.Begin inc instant)) = omega arith
light (Some (works.Complete inc)) = omega arith
light (Some (works.Live inc instant)) = omega arith
light (Some works.Settled) = omega arith

-- what becomes of an entry in one step of the work: it weighs no more, and less where it was meant
record Drops (meant : Bool) (t inc instant : ℕ) (old new : Option Filed) : Type 0 where
  pub fewer : weight_of t inc instant new ≤ weight_of t inc instant old
  pub less : meant ≡ true → 0 < weight_of t inc instant old → weight_of t inc instant new < weight_of t inc instant old

-- a sum over incarnations falls by a step on the entry whose work it is
acts_less : (t inc instant : ℕ) (w : Work) (rest living : ℕ → ℕ) (f g : ℕ → ℕ → Option Filed) (pairs : ℕ → List Pair) (incs : List ℕ)
    → ((of i : ℕ) → Drops (of == inc && i == instant) t of i (f of i) (g of i))
    → ((of i : ℕ) → option_and_then (act_of t of i) (f of i) ≡ Some w → (of == inc && i == instant) ≡ true)
    → first_answer (λ of. first_answer {A = Pair} (λ pair. option_and_then (act_of t of pair.instant) (f of pair.instant)) (pairs of)) incs ≡ Some w
    → sum_over (λ of. 3 * rest of + (weight_in t of (g of) (pairs of) + living of)) incs
    < sum_over (λ of. 3 * rest of + (weight_in t of (f of) (pairs of) + living of)) incs
acts_less t inc instant w rest living f g pairs incs drops meant found =
    sum_less (λ of. first_answer {A = Pair} (λ pair. option_and_then (act_of t of pair.instant) (f of pair.instant)) (pairs of)) w
    (λ of. 3 * rest of + (weight_in t of (f of) (pairs of) + living of)) (λ of. 3 * rest of + (weight_in t of (g of) (pairs of) + living of)) incs
    (λ of.
    let sums = sum_fewer {A = Pair} (λ pair. weight_of t of pair.instant (f of pair.instant)) (λ pair. weight_of t of pair.instant (g of pair.instant)) (pairs of)
    (λ pair. (drops of pair.instant).fewer) in
    omega (arith, sums))
    (λ of inside.
    let sums = sum_less {A = Pair} (λ pair. option_and_then (act_of t of pair.instant) (f of pair.instant)) w
    (λ pair. weight_of t of pair.instant (f of pair.instant)) (λ pair. weight_of t of pair.instant (g of pair.instant)) (pairs of)
    (λ pair. (drops of pair.instant).fewer)
    (λ pair e. (drops of pair.instant).less (meant of pair.instant e) (subst (λ (o : Option Work). 0 < act_weight o) (sym e) (some_weighs w)))
    inside in
    omega (arith, sums))
    found

-- ---- the work of an entry is its own

wanted_begin : (s : Standing) (of i inc instant : ℕ) → wanted_by of i s ≡ Some (works.Begin inc instant) → (of ≡ inc) × (i ≡ instant)
wanted_begin (standings.Decided outcome) of i inc instant e = absurd cc
wanted_begin standings.Live of i inc instant e = absurd cc
wanted_begin (standings.Exhausted reason) of i inc instant e = absurd cc
wanted_begin (standings.Waiting until) of i inc instant e = absurd cc
wanted_begin standings.Due of i inc instant e = (cc e, cc e)

wanted_close : (s : Standing) (of i inc instant : ℕ) (reason : Reason) → wanted_by of i s ≡ Some (works.Close inc instant reason) → (of ≡ inc) × (i ≡ instant)
wanted_close (standings.Decided outcome) of i inc instant reason e = absurd cc
wanted_close standings.Live of i inc instant reason e = absurd cc
wanted_close (standings.Exhausted found) of i inc instant reason e = (cc e, cc e)
wanted_close (standings.Waiting until) of i inc instant reason e = absurd cc
wanted_close standings.Due of i inc instant reason e = absurd cc

if_there : {A : Type 0} (b : Bool) (o : Option A) (w : A) → cond b o None ≡ Some w → o ≡ Some w
if_there true o w e = e
if_there false o w e = absurd cc

both : (a b x y : ℕ) → (a ≡ x) × (b ≡ y) → (a == x && b == y) ≡ true
both a b x y e = let l : (a == x) ≡ true = eq-eqb a x e.0 in let r : (b == y) ≡ true = eq-eqb b y e.1 in rw (l, r) refl

meant_begin : (t of i inc instant : ℕ) (o : Option Filed) → option_and_then (act_of t of i) o ≡ Some (works.Begin inc instant) → (of == inc && i == instant) ≡ true
meant_begin t of i inc instant None e = absurd cc
meant_begin t of i inc instant (Some f) e =
    both of i inc instant (wanted_begin (standing_of f t) of i inc instant (if_there (nat_le f.entry.chosen t) (wanted_by of i (standing_of f t)) (works.Begin inc instant) e))

meant_close : (t of i inc instant : ℕ) (reason : Reason) (o : Option Filed) → option_and_then (act_of t of i) o ≡ Some (works.Close inc instant reason) → (of == inc && i == instant) ≡ true
meant_close t of i inc instant reason None e = absurd cc
meant_close t of i inc instant reason (Some f) e =
    both of i inc instant (wanted_close (standing_of f t) of i inc instant reason (if_there (nat_le f.entry.chosen t) (wanted_by of i (standing_of f t)) (works.Close inc instant reason) e))

-- ---- a decided entry asks for nothing

asks_nothing : (come : Bool) (o : Option Outcome) (rest : List (Option Standing)) (inc instant : ℕ) → is_some o ≡ true
    → cond come (wanted_by inc instant (or_due (first_some (option_map standings.Decided o ∷ rest)))) None ≡ None
asks_nothing come None rest inc instant e = absurd cc
asks_nothing true (Some outcome) rest inc instant e = refl
asks_nothing false (Some outcome) rest inc instant e = refl

drops_one : (t inc instant : ℕ) (f g : Filed) → is_some g.entry.outcome ≡ true → Drops true t inc instant (Some f) (Some g)
drops_one t inc instant f g e =
    let none : weight_of t inc instant (Some g) ≡ 0 = ap act_weight (asks_nothing (nat_le g.entry.chosen t) g.entry.outcome _ inc instant e) in
    record { fewer = omega (arith, none); less = λ meant weighs. omega (arith, none, weighs) }

drops_none : (t inc instant : ℕ) → Drops true t inc instant None None
drops_none t inc instant = record { fewer = omega arith; less = λ meant weighs. omega (arith, weighs) }

drops_other : (t inc instant : ℕ) (o : Option Filed) → Drops false t inc instant o o
drops_other t inc instant o = record { fewer = omega arith; less = λ meant weighs. absurd cc }

outcome_there : (o : Option Outcome) (outcome : Outcome) → is_some (or_else o (Some outcome)) ≡ true
outcome_there None outcome = refl
outcome_there (Some found) outcome = refl

drops_closed : (b : Bool) (t inc instant : ℕ) (outcome : Outcome) (o : Option Filed) → Drops b t inc instant o (changed_if b (decided_as outcome) o)
drops_closed true t inc instant outcome None = drops_none t inc instant
drops_closed true t inc instant outcome (Some f) = drops_one t inc instant f (on_entry (decided_as outcome) f) (outcome_there f.entry.outcome outcome)
drops_closed false t inc instant outcome o = drops_other t inc instant o

pub close_lessens : ClosesLessen
close_lessens c h shard t inc instant reason w =
    let calls = ledger_of h in
    acts_less t inc instant (works.Close inc instant reason) (λ of. length (unentered c h of t)) (λ of. living_weight (current (rows_of (changes_of h)) of))
    (filed calls) (λ of i. changed_if (of == inc && i == instant) (decided_as (outcome_of reason)) (filed calls of i)) (entries calls)
    (of_shard shard (length (rows_of (changes_of h))))
    (λ of i. drops_closed (of == inc && i == instant) t of i (outcome_of reason) (filed calls of i))
    (λ of i. meant_close t of i inc instant reason (filed calls of i))
    (work_found (seen c h) shard t (works.Close inc instant reason) w)

-- ---- an entry whose attempt ended at a moment is not due at that moment

delayed : (power : ℕ) → 0 < power → 0 < min power 900
delayed power some = omega arith

later : (n t : ℕ) → nat_lt t (t + delay n) ≡ true
later n t = let some = delayed (2 ^ (n - 1)) (pow_pos (n - 1)) in grind (arith, nat_tests)

not_due : (come : Bool) (o : Option Outcome) (up age late : Bool) (until inc instant : ℕ) → late ≡ true
    → act_weight (cond come (wanted_by inc instant (or_due (first_some (option_map standings.Decided o ∷ None ∷ when up (standings.Exhausted reasons.Attempts) ∷ when age (standings.Exhausted reasons.Age) ∷ when late (standings.Waiting until) ∷ [])))) None) ≤ 1
not_due false o up age late until inc instant e = omega arith
not_due true (Some outcome) up age late until inc instant e = omega arith
not_due true None true age late until inc instant e = omega arith
not_due true None false true late until inc instant e = omega arith
not_due true None false false true until inc instant e = omega arith
not_due true None false false false until inc instant e = absurd cc

-- so an attempt leaves less to do for its entry, whatever came back for it
drops_due : (verdict : Verdict) (t inc instant : ℕ) (f : Filed) → act_of t inc instant f ≡ Some (works.Begin inc instant)
    → Drops true t inc instant (Some f) (Some (on_entry (with_end verdict t) (on_entry (with_begin t) f)))
drops_due verdicts.Done t inc instant f due = drops_one t inc instant f (on_entry (with_end verdicts.Done t) (on_entry (with_begin t) f)) (outcome_there f.entry.outcome outcomes.Done)
drops_due verdicts.Final t inc instant f due = drops_one t inc instant f (on_entry (with_end verdicts.Final t) (on_entry (with_begin t) f)) (outcome_there f.entry.outcome outcomes.Final)
drops_due verdicts.Retry t inc instant f due =
    let g : Filed = on_entry (with_end verdicts.Retry t) (on_entry (with_begin t) f) in
    let was : weight_of t inc instant (Some f) ≡ 2 = ap act_weight due in
    let is : weight_of t inc instant (Some g) ≤ 1 =
    not_due (nat_le g.entry.chosen t) g.entry.outcome (is_used_up g.entry g.policy) (is_past_age g.entry g.policy t) (nat_lt t (t + delay g.entry.used)) (t + delay g.entry.used) inc instant (later g.entry.used t) in
    record { fewer = omega (arith, was, is); less = λ meant weighs. omega (arith, was, is) }

drops_answered : (b : Bool) (verdict : Verdict) (t inc instant : ℕ) (o : Option Filed) → (b ≡ true → option_and_then (act_of t inc instant) o ≡ Some (works.Begin inc instant))
    → Drops b t inc instant o (changed_if b (with_end verdict t) (changed_if b (with_begin t) o))
drops_answered true verdict t inc instant None due = drops_none t inc instant
drops_answered true verdict t inc instant (Some f) due = drops_due verdict t inc instant f (due refl)
drops_answered false verdict t inc instant o due = drops_other t inc instant o

-- the entry that is meant is the one that asks
due_there : (f : ℕ → ℕ → Option Filed) (t inc instant of i : ℕ) → option_and_then (act_of t inc instant) (f inc instant) ≡ Some (works.Begin inc instant)
    → (of == inc && i == instant) ≡ true → option_and_then (act_of t of i) (f of i) ≡ Some (works.Begin of i)
due_there f t inc instant of i asks e =
    let parts = and_parts (of == inc) (i == instant) e in
    let same : inc ≡ of = sym (eqb-true of inc parts.0) in
    let alike : instant ≡ i = sym (eqb-true i instant parts.1) in
    subst (λ (n : ℕ). option_and_then (act_of t n i) (f n i) ≡ Some (works.Begin n i)) same
    (subst (λ (j : ℕ). option_and_then (act_of t inc j) (f inc j) ≡ Some (works.Begin inc j)) alike asks)

pub attempt_lessens : AttemptsLessen
attempt_lessens c h shard t inc instant end w =
    let calls = ledger_of h in
    let incs = of_shard shard (length (rows_of (changes_of h))) in
    let found = work_found (seen c h) shard t (works.Begin inc instant) w in
    let asks = acting_asks (seen c h) incs t (works.Begin inc instant) found in
    acts_less t inc instant (works.Begin inc instant) (λ of. length (unentered c h of t)) (λ of. living_weight (current (rows_of (changes_of h)) of))
    (filed calls) (λ of i. changed_if (of == inc && i == instant) (with_end end.0 t) (changed_if (of == inc && i == instant) (with_begin t) (filed calls of i))) (entries calls) incs
    (λ of i. drops_answered (of == inc && i == instant) end.0 t of i (filed calls of i) (due_there (filed calls) t inc instant of i asks))
    (λ of i. meant_begin t of i inc instant (filed calls of i))
    found
