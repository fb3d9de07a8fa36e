-- Facts of the calls of a ledger: what is entered, and what is filed.
use Rattle.std.proofs.Common.{◌≡◌, ℕ, ◌==◌, Bool, true, false, cond, ◌&&◌, ◌||◌, Option, Some, None, is_some, List, [], ◌∷◌, ◌++◌, map, find, option_map, refl, sym, ap, ap₂, ◌∙◌}
use Rattle.std.specs.List.{list_any}
use Rattle.std.proofs.lemmas.List.Folds.{list_any-append}
use Rattle.sched_plain.specs.declared.entry.Entry.{Entry}
use Rattle.sched_plain.specs.declared.entry.Filed.{Filed}
use Rattle.sched_plain.specs.declared.schedule.Policy.{Policy}
use Rattle.sched_plain.specs.declared.step.Pair.{Pair}
use Rattle.sched_plain.specs.declared.outcome.Outcome.TheVariants as outcomes
use Rattle.plain_words.specs.Lists.{or_else, only_if}
use Rattle.sched_plain.specs.declared.standing.Standing.{Standing}
use Rattle.sched_plain.specs.declared.standing.Standing.TheVariants as standings
use Rattle.sched_plain.specs.Rules.{unless_due}
use Rattle.sched_plain.specs.Ledger.{LedgerCall, Entered, Begun, Finished, Closed, Cancelled, Lost, Missed}
use Rattle.sched_plain.specs.Entries.{entries, is_paired, decided_as, with_begin, with_end, outcome_of, with_loss, with_missed, changed_if, is_lost_in, filed_by, filed}

pub filed_changed : (b : Bool) (change : Entry → Entry) (f : Option Filed) → is_some (changed_if b change f) ≡ is_some f
filed_changed true change None = refl
filed_changed true change (Some f) = refl
filed_changed false change f = refl

pub filed_else : (a b : Option Filed) → is_some (or_else a b) ≡ (is_some a || is_some b)
filed_else None b = refl
filed_else (Some f) b = refl

some_chosen : (test : Bool) (pair : Pair) (o : Option Pair) → is_some (cond test (Some pair) o) ≡ (test || is_some o)
some_chosen true pair o = refl
some_chosen false pair o = refl

found_any : (test : Pair → Bool) (pairs : List Pair) → is_some (find test pairs) ≡ list_any test pairs
found_any test [] = refl
found_any test (pair ∷ pairs) = some_chosen (test pair) pair (find test pairs) ∙ ap (λ b. test pair || b) (found_any test pairs)

some_mapped : {A B : Type 0} (f : A → B) (o : Option A) → is_some (option_map f o) ≡ is_some o
some_mapped f None = refl
some_mapped f (Some x) = refl

filed_entered : (b : Bool) (policy : Policy) (pairs before : List Pair) (old : Option Filed) (i : ℕ) → is_some old ≡ is_paired before i
    → is_some (cond b (or_else old (filed_by policy pairs i)) old) ≡ is_paired (cond b (before ++ pairs) before) i
filed_entered true policy pairs before old i same =
    filed_else old (filed_by policy pairs i)
    ∙ ap₂ (λ x y. x || y) same (some_mapped _ (find (λ pair. i == pair.instant) pairs) ∙ found_any (λ pair. i == pair.instant) pairs)
    ∙ sym (list_any-append (λ pair. i == pair.instant) before pairs)
filed_entered false policy pairs before old i same = same

-- an occurrence is filed where it has a pair
pub filed_paired : (calls : List LedgerCall) (inc i : ℕ) → is_some (filed calls inc i) ≡ is_paired (entries calls inc) i
filed_paired [] inc i = refl
filed_paired (Entered of policy pairs ∷ before) inc i =
    filed_entered (inc == of) policy pairs (entries before inc) (filed before inc i) i (filed_paired before inc i)
filed_paired (Begun of at number epoch moment ∷ before) inc i =
    filed_changed (inc == of && i == at) (with_begin moment) (filed before inc i) ∙ filed_paired before inc i
filed_paired (Finished of at number verdict status moment ∷ before) inc i =
    filed_changed (inc == of && i == at) (with_end verdict moment) (filed before inc i) ∙ filed_paired before inc i
filed_paired (Closed of at reason ∷ before) inc i =
    filed_changed (inc == of && i == at) (decided_as (outcome_of reason)) (filed before inc i) ∙ filed_paired before inc i
filed_paired (Cancelled of ∷ before) inc i =
    filed_changed (inc == of) (decided_as outcomes.Cancelled) (filed before inc i) ∙ filed_paired before inc i
filed_paired (Lost shard moment ∷ before) inc i =
    filed_changed (is_lost_in shard inc) (with_loss moment) (filed before inc i) ∙ filed_paired before inc i
filed_paired (Missed of at number moment ∷ before) inc i =
    filed_changed (inc == of && i == at) (with_missed number moment) (filed before inc i) ∙ filed_paired before inc i

-- other calls of the ledger add no pairs
pub entries_cancelled : (incs : List ℕ) (before : List LedgerCall) (inc : ℕ) → entries (map Cancelled incs ++ before) inc ≡ entries before inc
entries_cancelled [] before inc = refl
entries_cancelled (one ∷ incs) before inc = entries_cancelled incs before inc

pub entries_lost : (b : Bool) (shard : Option ℕ) (at : ℕ) (before : List LedgerCall) (inc : ℕ)
    → entries (only_if b (Lost shard at) ++ before) inc ≡ entries before inc
entries_lost true shard at before inc = refl
entries_lost false shard at before inc = refl

-- what the rules of Begin and Close ask for
pub due_is : (s : Standing) → unless_due s ≡ None → s ≡ standings.Due
due_is (standings.Decided outcome) e = cc
due_is standings.Live e = cc
due_is (standings.Exhausted reason) e = cc
due_is (standings.Waiting until) e = cc
due_is standings.Due e = refl
