-- Numbers summed up over the incarnations.
use Rattle.std.proofs.Common.{◌≡◌, ℕ, zero, suc, ◌+◌, ◌*◌, ◌≤◌, ◌<◌, ◌≢◌, Bool, List, ◌++◌, refl, sym, ap, ap₂, ◌∙◌, subst, inl, inr, arith}
use Rattle.std.proofs.lemmas.Bool.{cases_eq}
use Rattle.std.specs.List.{flat_map}
use Rattle.std.proofs.lemmas.Grind.{flat_map-append}
use Rattle.plain_words.specs.Lists.{numbers}
use Rattle.sched_plain.specs.declared.standing.Standing.{Standing}
use Rattle.sched_plain.specs.Report.{number_of}
use Rattle.ledger_rows.proofs.Tallies.{append_nil, number_append, numbers_append}

-- the sum of the first so many
abbrev pub sum_upto : (ℕ → ℕ) → ℕ → ℕ
sum_upto h zero = 0
sum_upto h (suc n) = sum_upto h n + h n

-- how many pass a test, list by list
pub number_sum : (test : Standing → Bool) (g : ℕ → List Standing) (n : ℕ) → number_of test (flat_map g (numbers 0 n)) ≡ sum_upto (λ i. number_of test (g i)) n
number_sum test g zero = refl
number_sum test g (suc n) =
    let next : suc n ≡ n + 1 = omega arith in
    ap (λ (k : ℕ). number_of test (flat_map g (numbers 0 k))) next
    ∙ ap (λ l. number_of test (flat_map g l)) (numbers_append 0 n 1)
    ∙ ap (number_of test) (flat_map-append g (numbers 0 n) (numbers (0 + n) 1) ∙ ap (λ l. flat_map g (numbers 0 n) ++ l) (alone g n))
    ∙ number_append test (flat_map g (numbers 0 n)) (g n)
    ∙ ap (λ (k : ℕ). k + number_of test (g n)) (number_sum test g n)
  where
    alone : (g : ℕ → List Standing) (i : ℕ) → flat_map g (numbers (0 + i) 1) ≡ g i
    alone g i = let e : 0 + i ≡ i = omega arith in ap (λ (k : ℕ). flat_map g (numbers k 1)) e ∙ append_nil (g i)

pub sum_same : (h k : ℕ → ℕ) (n : ℕ) → ((i : ℕ) → i < n → h i ≡ k i) → sum_upto h n ≡ sum_upto k n
sum_same h k zero same = refl
sum_same h k (suc n) same = ap₂ (λ (a b : ℕ). a + b) (sum_same h k n (λ i lt. same i (omega (arith, lt)))) (same n (omega arith))

-- nothing is behind a place
sum_behind : (h : ℕ → ℕ) (n m : ℕ) → ((i : ℕ) → n ≤ i → h i ≡ 0) → sum_upto h (n + m) ≡ sum_upto h n
sum_behind h n zero none = ap (sum_upto h) (let e : n + 0 ≡ n = omega arith in e)
sum_behind h n (suc m) none =
    let e : n + suc m ≡ suc (n + m) = omega arith in
    let z = none (n + m) (omega arith) in
    let before = sum_behind h n m none in
    ap (sum_upto h) e ∙ (omega (arith, z, before))

-- as many of one as of the other, where neither has any behind
pub sum_ends : (h : ℕ → ℕ) (n m : ℕ) → ((i : ℕ) → n ≤ i → h i ≡ 0) → ((i : ℕ) → m ≤ i → h i ≡ 0) → sum_upto h n ≡ sum_upto h m
sum_ends h n m one other =
    let swap : n + m ≡ m + n = omega arith in
    sym (sum_behind h n m one) ∙ ap (sum_upto h) swap ∙ sum_behind h m n other

-- one of them is changed
pub sum_changed : (h k : ℕ → ℕ) (at n : ℕ) → at < n → ((i : ℕ) → i ≢ at → k i ≡ h i) → sum_upto k n + h at ≡ sum_upto h n + k at
sum_changed h k at zero lt same = absurd (omega (arith, lt))
sum_changed h k at (suc n) lt same = elim (cases_eq n at) [
  | inl here ↦
      let before = sum_same k h n (λ i below. same i (λ e. omega (arith, e, below, here))) in
      subst (λ (j : ℕ). sum_upto k n + k n + h j ≡ sum_upto h n + h n + k j) here (omega (arith, before))
  | inr away ↦
      let before = sum_changed h k at n (omega (arith, lt, away)) same in
      let there = same n away in
      omega (arith, before, there)
]

-- one of them is in the sum
pub sum_has : (h : ℕ → ℕ) (at n : ℕ) → at < n → h at ≤ sum_upto h n
sum_has h at zero lt = absurd (omega (arith, lt))
sum_has h at (suc n) lt = elim (cases_eq n at) [
  | inl here ↦ subst (λ (j : ℕ). h j ≤ sum_upto h n + h n) here (omega arith)
  | inr away ↦ let before = sum_has h at n (omega (arith, lt, away)) in omega (arith, before)
]

-- a sum of small ones
pub sum_few : (h : ℕ → ℕ) (most n : ℕ) → ((i : ℕ) → h i ≤ most) → sum_upto h n ≤ n * most
sum_few h most zero few = omega arith
sum_few h most (suc n) few =
    let before = sum_few h most n few in
    let last = few n in
    let next : suc n * most ≡ n * most + most = step n most in omega (arith, before, last, next)
  where
    step : (n most : ℕ) → suc n * most ≡ n * most + most
    step n most = grind arith

-- a sum of two parts
pub sum_parts : (h a b : ℕ → ℕ) (n : ℕ) → ((i : ℕ) → i < n → h i ≡ a i + b i) → sum_upto h n ≡ sum_upto a n + sum_upto b n
sum_parts h a b zero parts = refl
sum_parts h a b (suc n) parts =
    let before = sum_parts h a b n (λ i lt. parts i (omega (arith, lt))) in
    let last = parts n (omega arith) in
    omega (arith, before, last)

-- a sum in which all but one are nothing
pub sum_alone : (h : ℕ → ℕ) (at n : ℕ) → at < n → ((i : ℕ) → i ≢ at → h i ≡ 0) → sum_upto h n ≡ h at
sum_alone h at n lt none =
    let nothing = sum_none n in
    let changed = sum_changed (λ i. 0) h at n lt none in omega (arith, nothing, changed)
  where
    sum_none : (n : ℕ) → sum_upto (λ i. 0) n ≡ 0
    sum_none zero = refl
    sum_none (suc n) = let before = sum_none n in omega (arith, before)

pub sum_grows : (a h : ℕ → ℕ) (n : ℕ) → ((i : ℕ) → a i ≤ h i) → sum_upto a n ≤ sum_upto h n
sum_grows a h zero le = omega arith
sum_grows a h (suc n) le = let before = sum_grows a h n le in let last = le n in omega (arith, before, last)
