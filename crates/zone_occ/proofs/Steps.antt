-- The first step of a rate from a moment on.
use Rattle.std.proofs.Common.{◌≢◌, ℕ, ◌+◌, ◌-◌, ◌/◌, ◌%◌, ◌<◌, ◌≤◌, inl, inr, arith}
use Rattle.std.proofs.lemmas.Bool.{cases_lt}
use Rattle.std.proofs.lemmas.Nat.{div-add-mod', mul-le, mod_below}
use Rattle.zone_occ.specs.InstantFacts.{IsStep}
use Rattle.zone_occ.specs.FirstInstants.{IsNext}

-- so many periods after the anchor that some of the last one have passed: the next step comes when the rest has
pub step_after : (seconds anchor from : ℕ) → 1 ≤ seconds → anchor < from → (from - anchor) % seconds ≢ 0 → IsNext (IsStep seconds anchor) from (from + (seconds - (from - anchor) % seconds))
step_after seconds anchor from low late rest =
    let q : ℕ = (from - anchor) / seconds in
    let divided = div-add-mod' (from - anchor) seconds in
    let below = mod_below (from - anchor) seconds (omega arith) in
    record {
      has = record { times = q + 1; is = omega arith };
      after = omega arith;
      least = λ later step le.
          elim (cases_lt q step.times) [
            | inl more ↦ let far = mul-le (q + 1) seconds step.times seconds (omega arith) (omega arith) in omega (arith, step.is)
            | inr fewer ↦ let near = mul-le step.times seconds q seconds fewer (omega arith) in absurd (omega (arith, step.is))
          ];
    }
