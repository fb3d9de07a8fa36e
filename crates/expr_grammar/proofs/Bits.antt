-- Lemmas on sets of bits.
use Rattle.std.proofs.Common.{◌≡◌, ℕ, zero, suc, ◌+◌, ◌-◌, ◌*◌, ◌^◌, ◌%◌, ◌<◌, ◌≤◌, Bool, true, false, List, [], ◌∷◌, ◌++◌, refl, sym, ap, ◌∙◌, cond, arith, max, subst, add-zero, add_comm, lit<}
use Rattle.plain_words.proofs.Booleans.{or_false, or_assoc}
use Rattle.std.specs.Prelude.{◌||◌, nat_lt}
use Rattle.std.specs.Int.{bit_at}
use Rattle.std.specs.Int.RustNames.{bit_or}
use Rattle.std.specs.List.{list_any}
use Rattle.std.proofs.Math.Nat.{pow-suc, pow-le-pow_right, mod-le}
use Rattle.std.proofs.lemmas.Bool.{ltb-true, ltb-false}
use Rattle.std.proofs.lemmas.Nat.Bits.{bit_at_or, bit_at_cat_low, bit_at_cat_high, bit_at_above, same_from_bits}
use Rattle.expressions.specs.CronItems as cron
use Rattle.expressions.specs.CronItems.{bits_below, contains, years_of}

-- a test as a bit
abbrev pub bit : Bool → ℕ
bit true = 1
bit false = 0

step_below : (here : Bool) (n low : ℕ) → low < 2 ^ n → low + cond here (2 ^ n) 0 < 2 ^ suc n
step_below true n low small = omega (arith, pow-suc 2 n)
step_below false n low small = omega (arith, pow-suc 2 n)

pub bits_below-lt : (test : ℕ → Bool) (n : ℕ) → bits_below test n < 2 ^ n
bits_below-lt test zero = lit< tt
bits_below-lt test (suc n) = step_below (test n) n (bits_below test n) (bits_below-lt test n)

low_bit : (here : Bool) (n low i : ℕ) → i < n → bit_at (low + cond here (2 ^ n) 0) i ≡ bit_at low i
low_bit true n low i within =
    ap (λ m. bit_at m i) (add_comm low (2 ^ n) ∙ ap (λ m. m + low) (sym (one_times (2 ^ n)))) ∙ bit_at_cat_low 1 n low i within where
      one_times : (m : ℕ) → 1 * m ≡ m
      one_times m = omega arith
low_bit false n low i within = ap (λ m. bit_at m i) (add-zero low)

top_bit : (here : Bool) (n low : ℕ) → low < 2 ^ n → bit_at (low + cond here (2 ^ n) 0) n ≡ bit here
top_bit true n low small =
    ap (λ m. bit_at m n) (add_comm low (2 ^ n) ∙ ap (λ m. m + low) (sym (one_times (2 ^ n))))
    ∙ bit_at_cat_high 1 n low n small (omega arith) ∙ ap (bit_at 1) (nothing n) where
      one_times : (m : ℕ) → 1 * m ≡ m
      one_times m = omega arith

      nothing : (m : ℕ) → m - m ≡ 0
      nothing m = omega arith
top_bit false n low small = ap (λ m. bit_at m n) (add-zero low) ∙ bit_at_above low n n small (omega arith)

-- the bits of a set by its test
pub bit_at-below : (test : ℕ → Bool) (n i : ℕ) → i < n → bit_at (bits_below test n) i ≡ bit (test i)
bit_at-below test zero i within = absurd (omega (arith, within))
bit_at-below test (suc n) i within = by_place (bit_at-below test n i) (nat_lt i n) refl where
  by_place : (i < n → bit_at (bits_below test n) i ≡ bit (test i)) → (below : Bool) → nat_lt i n ≡ below →
      bit_at (bits_below test (suc n)) i ≡ bit (test i)
  by_place before true is =
      let lower : i < n = ltb-true i n is in
      low_bit (test n) n (bits_below test n) i lower ∙ before lower
  by_place before false is =
      let past : n ≤ i = ltb-false i n is in
      let same : n ≡ i = omega arith in
      subst (λ k. bit_at (bits_below test (suc n)) k ≡ bit (test k)) same (top_bit (test n) n (bits_below test n) (bits_below-lt test n))

pub bit_at-past : (test : ℕ → Bool) (n i : ℕ) → n ≤ i → bit_at (bits_below test n) i ≡ 0
bit_at-past test n i past = bit_at_above (bits_below test n) n i (bits_below-lt test n) past

max_bits : (a b : Bool) → max (bit a) (bit b) ≡ bit (a || b)
max_bits true true = refl
max_bits true false = refl
max_bits false true = refl
max_bits false false = refl

-- the union of two sets
pub bits_below-or : (one other : ℕ → Bool) (n : ℕ) → bit_or (bits_below one n) (bits_below other n) ≡ bits_below (λ i. one i || other i) n
bits_below-or one other n = same_from_bits _ _ (λ i. by_place i (nat_lt i n) refl) where
  by_place : (i : ℕ) (below : Bool) → nat_lt i n ≡ below →
      bit_at (bit_or (bits_below one n) (bits_below other n)) i ≡ bit_at (bits_below (λ k. one k || other k) n) i
  by_place i true is =
      let lower : i < n = ltb-true i n is in
      bit_at_or (bits_below one n) (bits_below other n) i
      ∙ rw (bit_at-below one n i lower, bit_at-below other n i lower) (max_bits (one i) (other i))
      ∙ sym (bit_at-below (λ k. one k || other k) n i lower)
  by_place i false is =
      let past : n ≤ i = ltb-false i n is in
      bit_at_or (bits_below one n) (bits_below other n) i
      ∙ rw (bit_at-past one n i past, bit_at-past other n i past) refl
      ∙ sym (bit_at-past (λ k. one k || other k) n i past)

-- sets by tests that agree below the bound
pub bits_below_same : (one other : ℕ → Bool) (n : ℕ) → ((i : ℕ) → i < n → one i ≡ other i) → bits_below one n ≡ bits_below other n
bits_below_same one other zero agree = refl
bits_below_same one other (suc n) agree =
    let here : one n ≡ other n = agree n (omega arith) in
    rw (here, bits_below_same one other n (λ i within. agree i (omega arith))) refl

pub one_bit_fits : (low k : ℕ) → low < 2 ^ k → k < 128 → low + 1 * 2 ^ k % 2 ^ 128 < 2 ^ 128
one_bit_fits low k small within =
    let double : 2 ^ suc k ≤ 2 ^ 128 = pow-le-pow_right {n = 2} (lit< tt) {i = suc k} {j = 128} (omega arith) in
    let twice : 2 ^ suc k ≡ 2 ^ k * 2 = pow-suc 2 k in
    let whole : 1 * 2 ^ k % 2 ^ 128 ≤ 1 * 2 ^ k = mod-le (1 * 2 ^ k) (2 ^ 128) in
    omega arith

-- the years of one item
pub years_of_one : (first : ℕ) (item : cron.Item) → bits_below (λ i. contains (first + i) item) 128 ≡ years_of first (item ∷ [])
unfolding years_of
years_of_one first item =
    bits_below_same (λ i. contains (first + i) item) (λ i. list_any (contains (first + i)) (item ∷ [])) 128 (λ i within. sym (or_false (contains (first + i) item)))

any_append : (v : ℕ) (all : List cron.Item) (item : cron.Item) → (list_any (contains v) all || list_any (contains v) (item ∷ [])) ≡ list_any (contains v) (all ++ item ∷ [])
any_append v [] item = refl
any_append v (x ∷ all) item = or_assoc (contains v x) (list_any (contains v) all) (list_any (contains v) (item ∷ [])) ∙ ap (λ b. contains v x || b) (any_append v all item)

-- the years with one item more
pub years_of_more : (first : ℕ) (all : List cron.Item) (item : cron.Item) →
    bit_or (years_of first all) (years_of first (item ∷ [])) ≡ years_of first (all ++ item ∷ [])
unfolding years_of
years_of_more first all item =
    bits_below-or (λ i. list_any (contains (first + i)) all) (λ i. list_any (contains (first + i)) (item ∷ [])) 128
    ∙ bits_below_same _ _ 128 (λ i within. any_append (first + i) all item)

none_below : (n : ℕ) → bits_below (λ i. false) n ≡ 0
none_below zero = refl
none_below (suc n) = rw (none_below n) refl

-- no items have no years
pub years_of_none : (first : ℕ) → years_of first [] ≡ 0
unfolding years_of
years_of_none first = none_below 128
