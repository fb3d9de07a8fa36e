-- The bits of a set that was shifted right, as the search for the next value sees them.
use Rattle.std.proofs.Common.{inl, inr, ◌≡◌, ℕ, ◌+◌, ◌-◌, ◌/◌, ◌%◌, ◌^◌, ◌<◌, ◌≤◌, IsTrue, sym, ◌∙◌, ap, arith}
use Rattle.std.proofs.lemmas.Bool.{eqb-true, eq-eqb, cases_lt}
use Rattle.std.proofs.lemmas.Nat.{shr-shr}
use Rattle.std.proofs.lemmas.Nat.Bits.{bit_at-zero, bit_at-trailing_zeros}
use Rattle.std.specs.Int.{bit_at, trailing_zeros, w128}
use Rattle.cron_search.specs.Fit.{has_value}

pub bit_at-shr : (set k i : ℕ) → bit_at (set / 2 ^ k) i ≡ bit_at set (k + i)
bit_at-shr set k i = ap (λ n. n % 2) (shr-shr set k i)

-- a value of the set from k on is a bit of the shifted set
pub shifted : (set k w : ℕ) → IsTrue (has_value set w) → k ≤ w → bit_at (set / 2 ^ k) (w - k) ≡ 1
shifted set k w has le =
    let back : k + (w - k) ≡ w = omega arith in
    bit_at-shr set k (w - k) ∙ ap (bit_at set) back ∙ eqb-true _ _ has

-- the lowest bit of the shifted set is a value
pub lowest : (set k : ℕ) → 0 < set / 2 ^ k → set / 2 ^ k < 2 ^ 128 → IsTrue (has_value set (k + trailing_zeros w128 (set / 2 ^ k)))
lowest set k some fits =
    eq-eqb _ _ (sym (bit_at-shr set k _) ∙ (bit_at-trailing_zeros w128 (set / 2 ^ k) some fits).1)

-- and the least from k on
pub lowest_least : (set k : ℕ) → 0 < set / 2 ^ k → set / 2 ^ k < 2 ^ 128 → (w : ℕ) → IsTrue (has_value set w) → k ≤ w → k + trailing_zeros w128 (set / 2 ^ k) ≤ w
lowest_least set k some fits w has le =
    let one : bit_at (set / 2 ^ k) (w - k) ≡ 1 = shifted set k w has le in
    let none : w - k < trailing_zeros w128 (set / 2 ^ k) → bit_at (set / 2 ^ k) (w - k) ≡ 0 =
    (bit_at-trailing_zeros w128 (set / 2 ^ k) some fits).2 (w - k) in
    elim (cases_lt (w - k) (trailing_zeros w128 (set / 2 ^ k))) [
      | inl lt ↦ let zero_bit = none lt in absurd (omega (arith, one, zero_bit))
      | inr ge ↦ omega arith
    ]

-- where nothing is left after the shift there is no value from k on
pub nothing_left : (set k : ℕ) → set / 2 ^ k ≡ 0 → (w : ℕ) → IsTrue (has_value set w) → k ≤ w → ⊥
nothing_left set k none w has le =
    let one = shifted set k w has le in
    let zero_bit : bit_at (set / 2 ^ k) (w - k) ≡ 0 = ap (λ n. bit_at n (w - k)) none ∙ bit_at-zero (w - k) in
    omega (arith, one, zero_bit)
