-- The first moments of a span are determined, and are those that the list of all begins with.
use Rattle.std.proofs.Common.{◌≡◌, ℕ, zero, suc, ◌+◌, ◌-◌, ◌<◌, ◌≤◌, nat_le, Bool, true, false, ◌&&◌, List, [], ◌∷◌, ◌++◌, length, get_or, take, refl, ap, subst, inl, inr, arith, length-take}
use Rattle.std.proofs.lemmas.Bool.{cases_lt, cases_order, and_parts, and_from}
use Rattle.std.proofs.lemmas.Bool.Decides.{nat_tests}
use Rattle.std.proofs.lemmas.List.{ext_get_or, get_or_append_left, length_push, get_or_push}
use Rattle.std.proofs.lemmas.List.Elements.{All-push, All-weaker, Contains-get_or, Contains-append_left, Contains-push, Contains-push_cases}
use Rattle.std.specs.List.{All, Contains}
use Rattle.std.specs.List.Sorted.{IsStrictlyIncreasing}
use Rattle.expressions.specs.declared.expression.Expr.{Expr}
use Rattle.plain_words.specs.Lists.{put_if}
use Rattle.plain_words.specs.Lists.{passing}
use Rattle.zone_occ.specs.ZoneText.{ZoneText}
use Rattle.zone_occ.specs.Instants.{is_instant, instants}
use Rattle.zone_occ.specs.FirstInstants.{IsInstant, complete_to, AreFirsts}
use Rattle.zone_occ.proofs.Batches.{all_from, all_at, complete_within}
use Rattle.zone_occ.proofs.WindowLemmas.{rises, place_at, complete_full, complete_rest, take_rising, take_from, take_keeps}

-- ---- two lists of the first moments are the same

-- each of them comes no later than they are complete
at_complete : (Has : ℕ → Type 0) (from to max : ℕ) (xs : List ℕ) (k : ℕ) → 1 ≤ max → AreFirsts Has from to max xs → k < length xs → get_or xs k 0 ≤ complete_to max to xs
at_complete Has from to max xs k low firsts within =
    let few = firsts.few in
    elim (cases_lt (length xs) max) [
      | inl room ↦ omega (arith, complete_rest max to xs room, firsts.high k 0 within)
      | inr full ↦
          let last = complete_full max to xs (omega arith) in
          elim (cases_lt k (max - 1)) [
            | inl before ↦ omega (arith, rises xs k (max - 1) firsts.rising before (omega arith))
            | inr after ↦ let same : max - 1 ≡ k = omega arith in omega (arith, ap (λ i. get_or xs i 0) same)
          ]
    ]

-- one of them that comes no later than others are complete is among those
among : (Has : ℕ → Type 0) (from to max : ℕ) (xs ys : List ℕ) (k : ℕ) → AreFirsts Has from to max xs → AreFirsts Has from to max ys → k < length xs → get_or xs k 0 ≤ complete_to max to ys → (j : ℕ) × (j < length ys) × (get_or ys j 0 ≡ get_or xs k 0)
among Has from to max xs ys k one two within early =
    place_at ys (get_or xs k 0) (two.all (get_or xs k 0) (one.each (get_or xs k 0) (Contains-get_or xs k 0 within)) (one.low k 0 within) early)

-- a moment of one list that comes before that of the other at the same place is at an earlier place of the other
earlier_place : (Has : ℕ → Type 0) (from to max : ℕ) (xs ys : List ℕ) (k : ℕ) → 1 ≤ max → AreFirsts Has from to max xs → AreFirsts Has from to max ys → k < length xs → k < length ys → get_or xs k 0 < get_or ys k 0 → (j : ℕ) × (j < k) × (get_or ys j 0 ≡ get_or xs k 0)
earlier_place Has from to max xs ys k low one two within within_too lt =
    let bound = at_complete Has from to max ys k low two within_too in
    let found = among Has from to max xs ys k one two within (omega arith) in
    elim (cases_order found.0 k) [
      | inl here ↦ absurd (omega (arith, found.2, ap (λ i. get_or ys i 0) here))
      | inr (inl before) ↦ (found.0, before, found.2)
      | inr (inr after) ↦ absurd (omega (arith, found.2, rises ys k found.0 two.rising after found.1))
    ]

same_places : (Has : ℕ → Type 0) (from to max : ℕ) (xs ys : List ℕ) → 1 ≤ max → AreFirsts Has from to max xs → AreFirsts Has from to max ys → (n k : ℕ) → k < n → k < length xs → k < length ys → get_or xs k 0 ≡ get_or ys k 0
same_places Has from to max xs ys low one two zero k below within within_too = absurd (omega arith)
same_places Has from to max xs ys low one two (suc n) k below within within_too =
    elim (cases_order (get_or xs k 0) (get_or ys k 0)) [
      | inl same ↦ same
      | inr (inl lt) ↦
          let found = earlier_place Has from to max xs ys k low one two within within_too lt in
          let before = found.1 in
          let same = same_places Has from to max xs ys low one two n found.0 (omega arith) (omega arith) (omega arith) in
          absurd (omega (arith, found.2, rises xs found.0 k one.rising before within))
      | inr (inr gt) ↦
          let found = earlier_place Has from to max ys xs k low two one within_too within gt in
          let before = found.1 in
          let same = same_places Has from to max xs ys low one two n found.0 (omega arith) (omega arith) (omega arith) in
          absurd (omega (arith, found.2, rises ys found.0 k two.rising before within_too))
    ]

no_longer : (Has : ℕ → Type 0) (from to max : ℕ) (xs ys : List ℕ) → 1 ≤ max → AreFirsts Has from to max xs → AreFirsts Has from to max ys → length xs < length ys → ⊥
no_longer Has from to max xs ys low one two lt =
    let few = two.few in
    let rest = complete_rest max to xs (omega arith) in
    let found = among Has from to max ys xs (length xs) two one lt (omega (arith, two.high (length xs) 0 lt)) in
    let before = found.1 in
    let same = same_places Has from to max xs ys low one two (length xs) found.0 before before (omega arith) in
    omega (arith, found.2, rises ys found.0 (length xs) two.rising before lt)

-- the first moments of a span are determined
pub same_firsts : (Has : ℕ → Type 0) (from to max : ℕ) (xs ys : List ℕ) → 1 ≤ max → AreFirsts Has from to max xs → AreFirsts Has from to max ys → xs ≡ ys
same_firsts Has from to max xs ys low one two =
    elim (cases_order (length xs) (length ys)) [
      | inl same ↦ ext_get_or 0 xs ys same (λ k within. same_places Has from to max xs ys low one two (length xs) k within within (omega arith))
      | inr (inl lt) ↦ absurd (no_longer Has from to max xs ys low one two lt)
      | inr (inr gt) ↦ absurd (no_longer Has from to max ys xs low two one gt)
    ]

-- ---- the list of all that pass

-- a rising list with one more number that is above all of it
push_rising : (xs : List ℕ) (n : ℕ) → IsStrictlyIncreasing xs → All (λ x. x < n) xs → IsStrictlyIncreasing (xs ++ n ∷ [])
push_rising xs n rising below k within =
    let long = length_push xs n in
    let low : get_or (xs ++ n ∷ []) k 0 ≡ get_or xs k 0 = get_or_append_left xs (n ∷ []) 0 k (omega arith) in
    elim (cases_lt (k + 1) (length xs)) [
      | inl lt ↦
          let high : get_or (xs ++ n ∷ []) (k + 1) 0 ≡ get_or xs (k + 1) 0 = get_or_append_left xs (n ∷ []) 0 (k + 1) lt in
          omega (arith, rising k lt)
      | inr ge ↦
          let last : get_or (xs ++ n ∷ []) (k + 1) 0 ≡ n = get_or_push xs n 0 (k + 1) (omega arith) in
          omega (arith, below k 0 (omega arith))
    ]

-- what is known of the numbers below a bound that pass a test
record IsAllPassing (test : ℕ → Bool) (bound : ℕ) (xs : List ℕ) : Type 0 where
  rising : IsStrictlyIncreasing xs
  below : All (λ x. x < bound) xs
  passes : (x : ℕ) → Contains xs x → test x ≡ true
  all : (x : ℕ) → x < bound → test x ≡ true → Contains xs x

true_not_false : (b : Bool) → b ≡ true → b ≡ false → ⊥
true_not_false b yes_is no_is = cc

more_passing : (test : ℕ → Bool) (n : ℕ) (b : Bool) (xs : List ℕ) → test n ≡ b → IsAllPassing test n xs → IsAllPassing test (suc n) (put_if b n xs)
more_passing test n true xs is known = record {
  rising = push_rising xs n known.rising known.below;
  below = All-push (λ x. x < suc n) xs n (All-weaker (λ x. x < n) (λ x. x < suc n) (λ x lt. omega arith) xs known.below) (omega arith);
  passes = λ x has. elim (Contains-push_cases xs n x has) [
    | inl old ↦ known.passes x old
    | inr new ↦ subst (λ y. test y ≡ true) new is
  ];
  all = λ x lt passes. elim (cases_lt x n) [
    | inl early ↦ Contains-append_left xs (n ∷ []) x (known.all x early passes)
    | inr late ↦ let same : n ≡ x = omega arith in subst (Contains (xs ++ n ∷ [])) same (Contains-push xs n)
  ];
}
more_passing test n false xs is known = record {
  rising = known.rising;
  below = All-weaker (λ x. x < n) (λ x. x < suc n) (λ x lt. omega arith) xs known.below;
  passes = known.passes;
  all = λ x lt passes. elim (cases_lt x n) [
    | inl early ↦ known.all x early passes
    | inr late ↦ let same : n ≡ x = omega arith in absurd (true_not_false (test x) passes (subst (λ y. test y ≡ false) same is))
  ];
}

all_passing : (test : ℕ → Bool) (n : ℕ) → IsAllPassing test n (passing test n)
all_passing test zero = record {
  rising = λ k within. absurd (omega arith);
  below = λ k d within. absurd (omega arith);
  passes = λ x has. absurd (let within = has.1 in omega arith);
  all = λ x lt passes. absurd (omega arith);
}
all_passing test (suc n) = more_passing test n (test n) (passing test n) refl (all_passing test n)

-- ---- the instants of a span

-- the first ones of moments up to the end are complete no farther
take_complete : (max to : ℕ) (zs : List ℕ) → 1 ≤ max → All (λ y. y < to + 1) zs → complete_to max to (take max zs) ≤ to
take_complete max to zs low below =
    let long = length-take max zs in
    complete_within max to (take max zs) low (omega arith)
    (all_from (λ x. x ≤ to) (take max zs) (λ x has. let lt = all_at (λ y. y < to + 1) zs x below (take_from max x zs has) in omega arith))

-- the first `max` of all that pass in a span are its first moments
pub first_passing : (Has : ℕ → Type 0) (test : ℕ → Bool) (from to max : ℕ) → 1 ≤ max → ((x : ℕ) → test x ≡ true → Has x × (from ≤ x)) → ((x : ℕ) → Has x → from ≤ x → test x ≡ true) → AreFirsts Has from to max (take max (passing test (to + 1)))
first_passing Has test from to max low there back =
    let zs : List ℕ = passing test (to + 1) in
    let known = all_passing test (to + 1) in
    let long = length-take max zs in
    record {
      rising = take_rising max zs known.rising;
      few = omega arith;
      low = all_from (λ x. from ≤ x) (take max zs) (λ x has. (there x (known.passes x (take_from max x zs has))).1);
      high = all_from (λ x. x ≤ to) (take max zs) (λ x has. let below = all_at (λ y. y < to + 1) zs x known.below (take_from max x zs has) in omega arith);
      each = λ x has. (there x (known.passes x (take_from max x zs has))).0;
      all = λ x has late early.
          let bound = take_complete max to zs low known.below in
          take_keeps max to x zs low known.rising (known.all x (omega arith) (back x has late)) early;
    }

-- the instants of a span begin with its first ones
pub first_instants : (expr : Expr) (zone : ZoneText) (anchor from to max : ℕ) → 1 ≤ max → AreFirsts (IsInstant expr zone anchor) from to max (take max (instants expr zone anchor from to))
unfolding instants
first_instants expr zone anchor from to max low =
    first_passing (IsInstant expr zone anchor) (λ x. nat_le from x && is_instant expr zone anchor x) from to max low
    (λ x test. let parts = and_parts (nat_le from x) (is_instant expr zone anchor x) test in (parts.1, (let h = parts.0 in grind (arith, nat_tests))))
    (λ x has late. and_from (nat_le from x) (is_instant expr zone anchor x) (grind (arith, nat_tests)) has)
