-- The numbers of an occurrence's attempts against what its entry counts: the induction over every legal history.
use Rattle.std.proofs.Common.{◌≡◌, ℕ, zero, suc, ◌+◌, ◌<◌, ◌≤◌, ◌==◌, Bool, true, false, not, cond, ◌&&◌, Option, Some, None, List, [], ◌∷◌, ◌++◌, map, refl, sym, ap, ap₂, ◌∙◌, subst, arith, add-one, find, option_map}
use Rattle.std.proofs.lemmas.Bool.{and_parts, eqb-true, leb-false, not-false}
use Rattle.std.proofs.lemmas.List.{map-append}
use Rattle.sched_plain.specs.declared.entry.Attempt.{Attempt}
use Rattle.sched_plain.specs.declared.entry.Entry.{Entry}
use Rattle.sched_plain.specs.declared.entry.Fate.TheVariants as fates
use Rattle.sched_plain.specs.declared.entry.Filed.{Filed}
use Rattle.sched_plain.specs.declared.holder.Holder.{Holder}
use Rattle.plain_words.specs.declared.moment.Moment.{Moment}
use Rattle.sched_plain.specs.declared.schedule.Policy.{Policy}
use Rattle.sched_plain.specs.declared.step.Pair.{Pair}
use Rattle.sched_plain.specs.declared.step.Step.TheVariants as steps
use Rattle.sched_plain.specs.declared.outcome.Outcome.TheVariants as outcomes
use Rattle.plain_words.specs.declared.verdict.Verdict.{Verdict}
use Rattle.plain_words.specs.declared.verdict.Verdict.TheVariants as verdicts
use Rattle.sched_plain.specs.History.{History, beginning, based, ◌upon◌}
use Rattle.plain_words.specs.Ids.{shard_of}
use Rattle.plain_words.specs.Lists.{numbers, or_else, only_if}
use Rattle.sched_plain.specs.Changes.{changes_of}
use Rattle.sched_plain.specs.Rows.{rows_of}
use Rattle.expressions.specs.Calendar.{Calendar}
use Rattle.sched_plain.specs.Leases.{holder, is_taking}
use Rattle.sched_plain.specs.Ledger.{LedgerCall, Finished, Cancelled, Lost, policy_of, ended_by, ledger_of}
use Rattle.sched_plain.specs.Entries.{new_entry, decided_as, with_begin, with_end, outcome_of, with_loss, changed_if, is_lost_in, filed_by, filed, with_missed}
use Rattle.sched_plain.specs.Attempts.{begun_attempt, end_attempt, lose_attempt, attempts}
use Rattle.sched_plain.specs.Standing.{standing_of}
use Rattle.sched_plain.specs.Rules.{begin_table}
use Rattle.sched_plain.specs.Legal.{IsLegal, MayFollow}
use Rattle.plain_words.proofs.ListLemmas.{AllNone, when_none}
use Rattle.sched_plain.proofs.LedgerLemmas.{due_is}
use Rattle.book_laws.specs.AttemptLaws.{allowed, counted}
use Rattle.book_laws.proofs.Tables.{kind_holds}
use Rattle.book_laws.proofs.Standings.{due_says}

-- these numbers count up to what the entry counts, and that is allowed
pub record IsCounted (found : List ℕ) (f : Option Filed) : Type 0 where
  pub numbers : found ≡ numbers 1 (counted f)
  pub within : counted f ≤ allowed f

abbrev pub Counted : List LedgerCall → ℕ → ℕ → Type 0
Counted calls inc i = IsCounted (map (λ attempt. attempt.number) (attempts calls inc i)) (filed calls inc i)

-- an edit that leaves the count
pub record LeavesCount (change : Entry → Entry) : Type 0 where
  pub used : (e : Entry) → (change e).used ≡ e.used

pub counted_edit : (b : Bool) (change : Entry → Entry) → LeavesCount change → (f : Option Filed) → counted (changed_if b change f) ≡ counted f
counted_edit true change leaves None = refl
counted_edit true change leaves (Some f) = leaves.used f.entry
counted_edit false change leaves f = refl

allowed_edit : (b : Bool) (change : Entry → Entry) (f : Option Filed) → allowed (changed_if b change f) ≡ allowed f
allowed_edit true change None = refl
allowed_edit true change (Some f) = refl
allowed_edit false change f = refl

edit_counted : (b : Bool) (change : Entry → Entry) → LeavesCount change → (found : List ℕ) (f : Option Filed) → IsCounted found f
    → IsCounted found (changed_if b change f)
edit_counted b change leaves found f old =
    record {
      numbers = old.numbers ∙ ap (numbers 1) (sym (counted_edit b change leaves f));
      within = subst (λ n. n ≤ allowed (changed_if b change f)) (sym (counted_edit b change leaves f))
          (subst (λ n. counted f ≤ n) (sym (allowed_edit b change f)) old.within);
    }

pub decided_leaves : (outcome : _) → LeavesCount (decided_as outcome)
decided_leaves outcome = record { used = λ e. refl }

pub loss_leaves : (moment : ℕ) → LeavesCount (with_loss moment)
loss_leaves moment = record { used = λ e. refl }

missed_used : (b : Bool) (moment : ℕ) (e : Entry) → (cond b (with_loss moment e) e).used ≡ e.used
missed_used true moment e = refl
missed_used false moment e = refl

pub missed_leaves : (number moment : ℕ) → LeavesCount (with_missed number moment)
missed_leaves number moment = record { used = λ e. missed_used (number == e.used) moment e }

pub end_leaves : (verdict : Verdict) (moment : ℕ) → LeavesCount (with_end verdict moment)
end_leaves verdicts.Done moment = record { used = λ e. refl }
end_leaves verdicts.Retry moment = record { used = λ e. refl }
end_leaves verdicts.Final moment = record { used = λ e. refl }

-- attempts whose numbers stay
number_ended : (b : Bool) (attempt : Attempt) (fate : _) → (cond b (record attempt { fate = fate }) attempt).number ≡ attempt.number
number_ended true attempt fate = refl
number_ended false attempt fate = refl

numbers_ended : (number : ℕ) (verdict : Verdict) (status : ℕ) (all : List Attempt)
    → map {B = ℕ} (λ a. a.number) (map (end_attempt number verdict status) all) ≡ map (λ a. a.number) all
numbers_ended number verdict status [] = refl
numbers_ended number verdict status (attempt ∷ all) =
    ap₂ (λ n ns. n ∷ ns) (number_ended (number == attempt.number) attempt (fates.Ended verdict status)) (numbers_ended number verdict status all)

numbers_lost : (all : List Attempt) → map {B = ℕ} (λ a. a.number) (map lose_attempt all) ≡ map (λ a. a.number) all
numbers_lost [] = refl
numbers_lost (attempt ∷ all) = ap (λ ns. attempt.number ∷ ns) (numbers_lost all)

numbers_chosen : (b : Bool) (one all : List Attempt) → map {B = ℕ} (λ a. a.number) one ≡ map (λ a. a.number) all
    → map {B = ℕ} (λ a. a.number) (cond b one all) ≡ map (λ a. a.number) all
numbers_chosen true one all same = same
numbers_chosen false one all same = refl

-- every call but a begin keeps the count
entered_counted : (b : Bool) (policy : Policy) (pairs : List Pair) (i : ℕ) (found : List ℕ) (f : Option Filed) → IsCounted found f
    → IsCounted found (cond b (or_else f (filed_by policy pairs i)) f)
entered_counted true policy pairs i found (Some f) old = old
entered_counted true policy pairs i found None old = new_counted (find (λ pair. i == pair.instant) pairs)
  where
    new_counted : (pair : Option Pair) → IsCounted found (option_map {T = Pair} (λ p. record { entry = new_entry p.chosen; policy = policy }) pair)
    new_counted None = old
    new_counted (Some pair) = record { numbers = old.numbers; within = omega arith }
entered_counted false policy pairs i found f old = old

finished_counted : (of at number : ℕ) (verdict : Verdict) (status moment : ℕ) (before : List LedgerCall) (inc i : ℕ) → Counted before inc i
    → Counted (Finished of at number verdict status moment ∷ before) inc i
finished_counted of at number verdict status moment before inc i old =
    let here = inc == of && i == at in
    let f = changed_if here (with_end verdict moment) (filed before inc i) in
    subst (λ ns. IsCounted ns f)
    (sym (numbers_chosen here (map (end_attempt number verdict status) (attempts before inc i)) (attempts before inc i)
    (numbers_ended number verdict status (attempts before inc i))))
    (edit_counted here (with_end verdict moment) (end_leaves verdict moment) _ (filed before inc i) old)

lost_counted : (shard : Option ℕ) (moment : ℕ) (before : List LedgerCall) (inc i : ℕ) → Counted before inc i → Counted (Lost shard moment ∷ before) inc i
lost_counted shard moment before inc i old =
    let here = is_lost_in shard inc in
    let f = changed_if here (with_loss moment) (filed before inc i) in
    subst (λ ns. IsCounted ns f)
    (sym (numbers_chosen here (map lose_attempt (attempts before inc i)) (attempts before inc i) (numbers_lost (attempts before inc i))))
    (edit_counted here (with_loss moment) (loss_leaves moment) _ (filed before inc i) old)

cancelled_counted : (incs : List ℕ) (before : List LedgerCall) (inc i : ℕ) → Counted before inc i → Counted (map Cancelled incs ++ before) inc i
cancelled_counted [] before inc i old = old
cancelled_counted (of ∷ incs) before inc i old =
    edit_counted (inc == of) (decided_as outcomes.Cancelled) (decided_leaves outcomes.Cancelled) _ (filed (map Cancelled incs ++ before) inc i)
    (cancelled_counted incs before inc i old)

lost_if_counted : (b : Bool) (shard : Option ℕ) (moment : ℕ) (before : List LedgerCall) (inc i : ℕ) → Counted before inc i
    → Counted (only_if b (Lost shard moment) ++ before) inc i
lost_if_counted true shard moment before inc i old = lost_counted shard moment before inc i old
lost_if_counted false shard moment before inc i old = old

-- a begin has the number that is next, and one more attempt is allowed
abbrev pub IsNext : Option Filed → ℕ → Type 0
IsNext None number = ⊥
IsNext (Some f) number = (number ≡ f.entry.used + 1) × (f.entry.used < 1 + f.policy.retries)

next_from : (held : Holder) (f : Option Filed) (at inc i number epoch : ℕ) → AllNone (begin_table held f at inc i number epoch) → IsNext f number
next_from held None at inc i number epoch all = let clash : ⊥ = let none = all.0 in cc in absurd clash
next_from held (Some f) at inc i number epoch all =
    let due = due_says f.entry f.policy at (due_is (standing_of f at) all.1.0) in (
      eqb-true number (f.entry.used + 1) (not-false (number == f.entry.used + 1) (when_none (not (number == f.entry.used + 1)) _ all.1.1.0)),
      leb-false (1 + f.policy.retries) f.entry.used due.fewer,
    )

pub begin_next : (c : Calendar) (h : History) (at : Moment) (inc i number epoch : ℕ) → MayFollow c h (steps.Begin at inc i number epoch)
    → IsNext (filed (ledger_of h) inc i) number
begin_next c h at inc i number epoch may =
    next_from (holder h (shard_of inc)) (filed (ledger_of h) inc i) at.0 inc i number epoch (kind_holds c h (steps.Begin at inc i number epoch) may)

numbers_push : (from n : ℕ) → numbers from (suc n) ≡ numbers from n ++ (from + n) ∷ []
numbers_push from zero = let same : from ≡ from + 0 = omega arith in ap (λ k. k ∷ []) same
numbers_push from (suc n) =
    let same : from + 1 + n ≡ from + suc n = omega arith in
    ap (λ ns. from ∷ ns) (numbers_push (from + 1) n ∙ ap (λ k. numbers (from + 1) n ++ k ∷ []) same)

begun_counted : (b : Bool) (number moment epoch : ℕ) (all : List Attempt) (f : Option Filed) → (b ≡ true → IsNext f number)
    → IsCounted (map (λ a. a.number) all) f
    → IsCounted (map (λ a. a.number) (cond b (all ++ begun_attempt number moment epoch ∷ []) all)) (changed_if b (with_begin moment) f)
begun_counted true number moment epoch all None next old = absurd (next refl)
begun_counted true number moment epoch all (Some f) next old =
    let is : number ≡ f.entry.used + 1 = (next refl).0 in
    let fewer : f.entry.used < 1 + f.policy.retries = (next refl).1 in
    let one_more : number ≡ 1 + f.entry.used = omega arith in
    record {
      numbers =
          map-append (λ a. a.number) all (begun_attempt number moment epoch ∷ [])
          ∙ ap₂ (λ ns n. ns ++ n ∷ []) old.numbers one_more
          ∙ sym (numbers_push 1 f.entry.used)
          ∙ ap (numbers 1) (sym (add-one f.entry.used));
      within = omega arith;
    }
begun_counted false number moment epoch all f next old = old

-- the test on an occurrence, where it holds, puts one in the other's place
pub at_same : (P : ℕ → ℕ → Type 0) (inc of i at : ℕ) → (inc == of && i == at) ≡ true → P of at → P inc i
at_same P inc of i at e given =
    let parts = and_parts (inc == of) (i == at) e in
    subst (λ k. P k i) (sym (eqb-true inc of parts.0)) (subst (λ k. P of k) (sym (eqb-true i at parts.1)) given)

pub counted_in : (c : Calendar) (h : History) → IsLegal c h → (inc i : ℕ) → Counted (ledger_of h) inc i
counted_in c beginning legal inc i = record { numbers = refl; within = omega arith }
counted_in c (based b kept) legal inc i = absurd legal
counted_in c (steps.Boot at upon h) legal inc i = lost_counted None at.0 (ledger_of h) inc i (counted_in c h legal.0 inc i)
counted_in c (steps.Zone at name bytes upon h) legal inc i = counted_in c h legal.0 inc i
counted_in c (steps.Change at write upon h) legal inc i =
    cancelled_counted (ended_by (rows_of (changes_of h)) write) (ledger_of h) inc i (counted_in c h legal.0 inc i)
counted_in c (steps.Enter at of pairs upon h) legal inc i =
    entered_counted (inc == of) (policy_of (rows_of (changes_of h)) of pairs) pairs i _ (filed (ledger_of h) inc i) (counted_in c h legal.0 inc i)
counted_in c (steps.Lease at shard worker epoch until upon h) legal inc i =
    lost_if_counted (is_taking (holder h shard) epoch) (Some shard) at.0 (ledger_of h) inc i (counted_in c h legal.0 inc i)
counted_in c (steps.Release at shard worker epoch upon h) legal inc i = counted_in c h legal.0 inc i
counted_in c (steps.Begin at of instant number epoch upon h) legal inc i =
    begun_counted (inc == of && i == instant) number at.0 epoch (attempts (ledger_of h) inc i) (filed (ledger_of h) inc i)
    (λ same. at_same (λ k j. IsNext (filed (ledger_of h) k j) number) inc of i instant same (begin_next c h at of instant number epoch legal.1))
    (counted_in c h legal.0 inc i)
counted_in c (steps.End at of instant number verdict status upon h) legal inc i =
    finished_counted of instant number verdict status at.0 (ledger_of h) inc i (counted_in c h legal.0 inc i)
counted_in c (steps.Close at of instant reason upon h) legal inc i =
    edit_counted (inc == of && i == instant) (decided_as (outcome_of reason)) (decided_leaves (outcome_of reason)) _ (filed (ledger_of h) inc i)
    (counted_in c h legal.0 inc i)
counted_in c (steps.Complete at removed upon h) legal inc i = counted_in c h legal.0 inc i
counted_in c (steps.Swept at shard upon h) legal inc i = counted_in c h legal.0 inc i
