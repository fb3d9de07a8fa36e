-- The first instants at which a content acts, from those of its expression.
use Rattle.std.proofs.Common.{◌≡◌, ℕ, zero, suc, ◌+◌, ◌<◌, ◌≤◌, min, nat_le, Bool, true, false, ◌&&◌, List, [], refl, sym, ap, ap₂, ◌∙◌, inl, inr, arith, lt-suc_self}
use Rattle.std.specs.Prelude.{Result, Ok, Err, IfOk, take}
use Rattle.std.specs.declared.alloc.AllocError.{AllocError}
use Rattle.std.proofs.Math.Seq.{take-nil}
use Rattle.std.proofs.lemmas.Bool.{cases_lt, le-leb, leb-true, and_parts, and_from}
use Rattle.plain_words.specs.Moments.{last_moment}
use Rattle.plain_words.specs.Lists.{passing, put_if}
use Rattle.sched_plain.specs.declared.schedule.Schedule.{Schedule}
use Rattle.zone_occ.specs.ZoneText.{ZoneText}
use Rattle.zone_occ.specs.Instants.{is_instant, instants}
use Rattle.next_dates.specs.Dates.{from_on}
use Rattle.schedule_clock.specs.Acting.{anchor_of, acts}
use Rattle.schedule_clock.proofs.Acting.{AreDated, IsActing, acts_in_time, acting_at, acts_at, not_so}

-- tests that agree below a bound let the same numbers pass
pub passing_same : (p q : ℕ → Bool) (n : ℕ) → ((i : ℕ) → i < n → p i ≡ q i) → passing p n ≡ passing q n
passing_same p q zero same = refl
passing_same p q (suc n) same =
    ap₂ (λ b xs. put_if b n xs) (same n (lt-suc_self n)) (passing_same p q n (λ i lt. let more : i < suc n = omega arith in same i more))

-- so do they where the first of them fails from a lower bound on
pub passing_cut : (p q : ℕ → Bool) (low high : ℕ) → low ≤ high → ((i : ℕ) → i < low → p i ≡ q i) → ((i : ℕ) → low ≤ i → i < high → p i ≡ false) → passing p high ≡ passing q low
passing_cut p q low zero le same none =
    let top : low ≡ zero = omega arith in
    ap (passing q) (sym top)
passing_cut p q low (suc high) le same none =
    elim (cases_lt high low) [
      | inl lt ↦
          let top : low ≡ suc high = omega arith in
          passing_same p q (suc high) (λ i under. let more : i < low = omega arith in same i more) ∙ ap (passing q) (sym top)
      | inr under ↦
          ap₂ (λ b xs. put_if b high xs) (none high under (lt-suc_self high))
          (passing_cut p q low high under same (λ i late lt. let more : i < suc high = omega arith in none i late more))
    ]

-- where a test fails nothing passes
pub passing_none : (p : ℕ → Bool) (n : ℕ) → ((i : ℕ) → p i ≡ false) → passing p n ≡ []
passing_none p zero none = refl
passing_none p (suc n) none = ap₂ (λ b xs. put_if b n xs) (none n) (passing_none p n none)

-- two tests that imply one another are one
same_tests : (a b : Bool) → (a ≡ true → b ≡ true) → (b ≡ true → a ≡ true) → a ≡ b
same_tests true b there back = sym (there refl)
same_tests false true there back = back refl
same_tests false false there back = refl

-- the instants of a span at which a content acts are those of its expression in the span that its dates leave
pub acting_instants : (content : Schedule) (zone : ZoneText) (created from to a b : ℕ) → content.enabled ≡ true → AreDated content from (min to last_moment) a b → b ≤ min to last_moment
    → passing (from_on from (acts content zone created)) (to + 1) ≡ instants content.expr zone (anchor_of content created) a b
unfolding instants
acting_instants content zone created from to a b enabled dated short =
    passing_cut (from_on from (acts content zone created)) (λ i. nat_le a i && is_instant content.expr zone (anchor_of content created) i) (b + 1) (to + 1)
    (omega arith) (λ i lt. same i (omega arith)) (λ i late lt. none i (omega arith) (omega arith))
  where
    acting : (i : ℕ) → i ≤ min to last_moment → from_on from (acts content zone created) i ≡ true → IsActing content zone created a b i
    acting i early test = acting_at content zone created from (min to last_moment) a b dated i early test

    same : (i : ℕ) → i ≤ b → from_on from (acts content zone created) i ≡ (nat_le a i && is_instant content.expr zone (anchor_of content created) i)
    same i within =
        same_tests _ _
        (λ test. let at = acting i (omega arith) test in
        and_from (nat_le a i) (is_instant content.expr zone (anchor_of content created) i) (le-leb a i at.after) at.instant)
        (λ test. let parts = and_parts (nat_le a i) (is_instant content.expr zone (anchor_of content created) i) test in
        acts_at content zone created from (min to last_moment) a b dated enabled i (record { after = leb-true a i parts.0; before = within; instant = parts.1 }))

    none : (i : ℕ) → b < i → i ≤ to → from_on from (acts content zone created) i ≡ false
    none i past early =
        not_so _ (λ test.
        let known = acts_in_time content zone created from i test in
        let at = acting i (omega (arith, known)) test in
        omega (arith, past, at.before))

-- the first ones of an agreeing test are the same
pub first_as : (p q : ℕ → Bool) (most bound : ℕ) (r : Result (List ℕ) AllocError) → ((i : ℕ) → p i ≡ q i)
    → IfOk r (λ all. all ≡ take most (passing p bound)) → IfOk r (λ all. all ≡ take most (passing q bound))
first_as p q most bound (Ok all) same is = is ∙ ap (take most) (passing_same p q bound (λ i lt. same i))
first_as p q most bound (Err error) same is = is

-- nothing comes first where nothing passes
pub first_none : (p : ℕ → Bool) (most bound : ℕ) → ((i : ℕ) → p i ≡ false) → take most (passing p bound) ≡ []
first_none p most bound none = ap (take most) (passing_none p bound none) ∙ take-nil most
