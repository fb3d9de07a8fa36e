-- The next instant at which a content acts, from the next one of its expression.
use Rattle.std.proofs.Common.{◌≡◌, ℕ, ◌<◌, ◌≤◌, true, false, Some, arith}
use Rattle.plain_words.specs.Moments.{last_moment}
use Rattle.sched_plain.specs.declared.schedule.Schedule.{Schedule}
use Rattle.zone_occ.specs.ZoneText.{ZoneText}
use Rattle.zone_occ.specs.FirstInstants.{IsInstant, IsNext, HasNoNext}
use Rattle.next_dates.specs.Dates.{IsLeast, from_on}
use Rattle.schedule_clock.specs.Acting.{anchor_of, acts}
use Rattle.schedule_clock.proofs.Acting.{AreDated, IsActing, acts_in_time, acting_at, acts_at, not_so}

module _ (content : Schedule) (zone : ZoneText) (created from a b : ℕ) (dated : AreDated content from last_moment a b) where
  acting : (i : ℕ) → from_on from (acts content zone created) i ≡ true → IsActing content zone created a b i
  acting i test = acting_at content zone created from last_moment a b dated i (acts_in_time content zone created from i test) test

  -- no instant comes in the span
  pub none_next : HasNoNext (IsInstant content.expr zone (anchor_of content created)) a → (i : ℕ) → from_on from (acts content zone created) i ≡ false
  none_next none i = not_so _ (λ test. let at = acting i test in none i at.instant at.after)

  -- the next one comes after the span
  pub none_past : (m : ℕ) → IsNext (IsInstant content.expr zone (anchor_of content created)) a m → b < m → (i : ℕ) → from_on from (acts content zone created) i ≡ false
  none_past m next past i = not_so _ (λ test. let at = acting i test in omega (arith, at.before, next.least i at.instant at.after))

  -- the next one comes in the span
  pub some_next : content.enabled ≡ true → (m : ℕ) → IsNext (IsInstant content.expr zone (anchor_of content created)) a m → m ≤ b
      → IsLeast (from_on from (acts content zone created)) (Some m)
  some_next enabled m next within = (
    acts_at content zone created from last_moment a b dated enabled m (record { after = next.after; before = within; instant = next.has }),
    λ i lt. not_so _ (λ test. let at = acting i test in omega (arith, lt, next.least i at.instant at.after)),
  )
