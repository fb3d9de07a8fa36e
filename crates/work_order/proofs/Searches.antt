-- Searches over the numbers that pass a test, and over pairs in the order of their instants.
use Rattle.std.proofs.Common.{◌≡◌, ℕ, zero, suc, ◌+◌, ◌-◌, ◌<◌, ◌≤◌, ◌==◌, Bool, true, false, cond, Option, Some, None, is_some, List, [], ◌∷◌, length, filter, AllPairs, refl, sym, ap, ◌∙◌, inl, inr, arith}
use Rattle.std.proofs.Common.{get_or}
use Rattle.std.proofs.lemmas.Bool.{cases_eq, or_cases, eqb-true}
use Rattle.sched_plain.specs.declared.step.Pair.{Pair}
use Rattle.plain_words.specs.Lists.{nth, numbers, first_answer, or_else}
use Rattle.sched_plain.specs.Entries.{instants_of, is_paired}
use Rattle.plain_words.proofs.ListLemmas.{nth_rest}
use Rattle.plain_words.proofs.Options.{else_none}

pub else_first : {B : Type 0} (a b : Option B) → is_some a ≡ true → or_else a b ≡ a
else_first None b there = cc there
else_first (Some x) b there = refl

-- an element that has no answer is passed over
skipped : {B : Type 0} (question : ℕ → Option B) (b : Bool) (x : ℕ) (rest : List ℕ) → (b ≡ true → question x ≡ None)
    → first_answer question (cond b (x ∷ rest) rest) ≡ first_answer question rest
skipped question true x rest none = ap (λ o. or_else o (first_answer question rest)) (none refl)
skipped question false x rest none = refl

-- where no number that passes has an answer the search finds none
pub none_in_numbers : {B : Type 0} (question : ℕ → Option B) (test : ℕ → Bool) (from n : ℕ)
    → ((i : ℕ) → test i ≡ true → question i ≡ None) → first_answer question (filter test (numbers from n)) ≡ None
none_in_numbers question test from zero none = refl
none_in_numbers question test from (suc n) none =
    skipped question (test from) from (filter test (numbers (from + 1) n)) (none from) ∙ none_in_numbers question test (from + 1) n none

taken : {B : Type 0} (question : ℕ → Option B) (b : Bool) (x : ℕ) (rest : List ℕ) → b ≡ true → is_some (question x) ≡ true
    → first_answer question (cond b (x ∷ rest) rest) ≡ question x
taken question true x rest passes there = else_first (question x) (first_answer question rest) there
taken question false x rest passes there = cc passes

-- a number that passes and has an answer, where none that passes below it has one, is found
pub found_in_numbers : {B : Type 0} (question : ℕ → Option B) (test : ℕ → Bool) (from n found : ℕ) → from ≤ found → found < from + n
    → test found ≡ true → ((i : ℕ) → i < found → test i ≡ true → question i ≡ None) → is_some (question found) ≡ true
    → first_answer question (filter test (numbers from n)) ≡ question found
found_in_numbers question test from zero found low up passes none there = absurd (omega arith)
found_in_numbers question test from (suc n) found low up passes none there =
    elim (cases_eq found from) [
      | inl same ↦
          taken question (test from) from (filter test (numbers (from + 1) n)) (ap test (sym same) ∙ passes)
          (ap (λ i. is_some (question i)) (sym same) ∙ there)
          ∙ ap question (sym same)
      | inr apart ↦
          skipped question (test from) from (filter test (numbers (from + 1) n)) (none from (omega arith))
          ∙ found_in_numbers question test (from + 1) n found (omega arith) (omega arith) passes none there
    ]

none_at : {B : Type 0} (question : ℕ → Option B) (b : Bool) (x : ℕ) (rest : List ℕ) → b ≡ true
    → first_answer question (cond b (x ∷ rest) rest) ≡ None → question x ≡ None
none_at question true x rest there e = (else_none (question x) (first_answer question rest) e).0
none_at question false x rest there e = cc there

none_after : {B : Type 0} (question : ℕ → Option B) (b : Bool) (x : ℕ) (rest : List ℕ)
    → first_answer question (cond b (x ∷ rest) rest) ≡ None → first_answer question rest ≡ None
none_after question true x rest e = (else_none (question x) (first_answer question rest) e).1
none_after question false x rest e = e

-- where a search found none, no number that passes has an answer
pub none_of_numbers : {B : Type 0} (question : ℕ → Option B) (test : ℕ → Bool) (from n i : ℕ)
    → first_answer question (filter test (numbers from n)) ≡ None → from ≤ i → i < from + n → test i ≡ true → question i ≡ None
none_of_numbers question test from zero i e low up passes = absurd (omega arith)
none_of_numbers question test from (suc n) i e low up passes =
    elim (cases_eq i from) [
      | inl same ↦
          ap question same
          ∙ none_at question (test from) from (filter test (numbers (from + 1) n)) (ap test (sym same) ∙ passes) e
      | inr apart ↦
          none_of_numbers question test (from + 1) n i (none_after question (test from) from (filter test (numbers (from + 1) n)) e)
          (omega arith) (omega arith) passes
    ]

-- the instants of these pairs rise
abbrev pub Rise : List Pair → Type 0
Rise [] = Unit {0}
Rise (pair ∷ pairs) = ((k : ℕ) → is_paired pairs k ≡ true → pair.instant < k) × Rise pairs

above : (x : ℕ) (pairs : List Pair) (k : ℕ) → ((j d : ℕ) → j < length (instants_of pairs) → x < get_or (instants_of pairs) j d)
    → is_paired pairs k ≡ true → x < k
above x [] k all there = cc there
above x (pair ∷ pairs) k all there =
    elim (or_cases (k == pair.instant) (is_paired pairs k) there) [
      | inl here ↦
          let same : k ≡ pair.instant = eqb-true k pair.instant here in
          let under : x < pair.instant = all 0 0 (omega arith) in
          omega arith
      | inr later ↦ above x pairs k (λ j d within. all (suc j) d (omega arith)) later
    ]

pub rise : (pairs : List Pair) → AllPairs (λ earlier later. earlier < later) (instants_of pairs) → Rise pairs
rise [] all = tt
rise (pair ∷ pairs) all = (
  λ k there. above pair.instant pairs k (λ j d within. all 0 (suc j) d (omega arith) (omega arith)) there,
  rise pairs (λ i j d lt within. all (suc i) (suc j) d (omega arith) (omega arith)),
)

-- where no pair has an answer the search finds none
pub none_in_pairs : {B : Type 0} (question : ℕ → Option B) (pairs : List Pair) → ((k : ℕ) → question k ≡ None)
    → first_answer {A = Pair} (λ pair. question pair.instant) pairs ≡ None
none_in_pairs question [] none = refl
none_in_pairs question (pair ∷ pairs) none =
    ap (λ o. or_else o (first_answer {A = Pair} (λ p. question p.instant) pairs)) (none pair.instant) ∙ none_in_pairs question pairs none

-- an instant that has a pair and an answer, where none below it has one, is found
pub found_in_pairs : {B : Type 0} (question : ℕ → Option B) (pairs : List Pair) (found : ℕ) → Rise pairs → is_paired pairs found ≡ true
    → ((k : ℕ) → k < found → question k ≡ None) → is_some (question found) ≡ true
    → first_answer {A = Pair} (λ pair. question pair.instant) pairs ≡ question found
found_in_pairs question [] found rising there none answer = cc there
found_in_pairs question (pair ∷ pairs) found rising there none answer =
    let rest = first_answer {A = Pair} (λ p. question p.instant) pairs in
    elim (or_cases (found == pair.instant) (is_paired pairs found) there) [
      | inl here ↦
          let same : found ≡ pair.instant = eqb-true found pair.instant here in
          ap (λ k. or_else (question k) rest) (sym same) ∙ else_first (question found) rest answer
      | inr later ↦
          ap (λ o. or_else o rest) (none pair.instant (rising.0 found later))
          ∙ found_in_pairs question pairs found rising.1 later none answer
    ]

-- an element's place is within the list
pub record IsWithin (place long : ℕ) : Type 0 where
  pub low : 1 ≤ place
  pub up : place ≤ long

pub nth_within : {A : Type 0} (xs : List A) (place : ℕ) (x : A) → nth xs place ≡ Some x → IsWithin place (length xs)
nth_within [] place x e = let clash : ⊥ = cc in absurd clash
nth_within (y ∷ xs) place x e =
    elim (cases_eq place 1) [
      | inl first ↦ record { low = omega arith; up = omega arith }
      | inr apart ↦
          let old = nth_within xs (place - 1) x (sym (nth_rest y xs place apart) ∙ e) in
          let low : 1 ≤ place - 1 = old.low in
          let up : place - 1 ≤ length xs = old.up in
          record { low = omega arith; up = omega arith }
    ]
