-- The test of an instant says what the facts say, for each kind of expression.
use Rattle.std.proofs.Common.{◌≡◌, ℕ, zero, suc, ◌+◌, ◌-◌, ◌*◌, ◌/◌, ◌%◌, ◌<◌, ◌≤◌, nat_le, ◌==◌, ℤ, pos, Bool, true, ◌&&◌, Option, Some, None, refl, sym, ap, ◌∙◌, subst, inl, inr, arith}
use Rattle.std.specs.Prelude.{IfSome, IfNone}
use Rattle.std.proofs.lemmas.Bool.{cases_lt, and_parts, and_from, or_cases}
use Rattle.std.proofs.lemmas.Bool.Decides.{nat_tests}
use Rattle.std.proofs.lemmas.Nat.{div-add-mod'}
use Rattle.std.proofs.Math.Nat.{add-mul-mod_self_right, zero-mod}
use Rattle.std.proofs.lemmas.Option.{none-some, same_Some}
use Rattle.jiff_core.proofs.SignedLemmas.{signed_arith}
use Rattle.jiff_core.proofs.CalendarLemmas.{days_in_month_bounds}
use Rattle.jiff_tz.specs.PosixRule.{int_same}
use Rattle.expressions.specs.declared.expression.Civil.{Civil}
use Rattle.expressions.specs.declared.expression.CronSets.{CronSets}
use Rattle.expressions.specs.declared.expression.Expr.{Expr}
use Rattle.expressions.specs.declared.expression.Expr.TheVariants.{At, Rate, Cron}
use Rattle.expressions.specs.declared.expression.Unit.{Unit as RateUnit}
use Rattle.expressions.specs.CivilSeconds.{is_civil}
use Rattle.plain_words.specs.Lists.{some_pass}
use Rattle.plain_words.specs.Moments.{last_moment}
use Rattle.cron_search.specs.CivilTime.{IsCivilSecond}
use Rattle.cron_search.specs.Fit.{fits}
use Rattle.expressions.proofs.RealSeconds.{is_civil-true, IsCivilSecond-is_civil}
use Rattle.zone_occ.specs.ZoneText.{ZoneText}
use Rattle.zone_occ.specs.Conversion.{conv}
use Rattle.zone_occ.specs.Instants.{period, is_step, is_shown, some_below, minute_at, some_minute, is_instant}
use Rattle.zone_occ.specs.InstantFacts.{IsAtInstant, IsStep, IsRateInstant, IsCronInstant}
use Rattle.zone_occ.specs.FirstInstants.{IsInstant, IsNext, HasNoNext}

-- a moment is that of an instant exactly where the two are the same
shown_here : (o : Option ℤ) (moment : ℕ) → o ≡ Some (pos moment) → some_pass (λ i. int_same i (pos moment)) o ≡ true
shown_here None moment h = absurd (none-some _ h)
shown_here (Some i) moment h = let same = same_Some _ _ h in rw same (grind (arith, signed_arith))

here_shown : (o : Option ℤ) (moment : ℕ) → some_pass (λ i. int_same i (pos moment)) o ≡ true → o ≡ Some (pos moment)
here_shown None moment h = absurd cc
here_shown (Some i) moment h = ap (λ x. Some x) (grind (arith, signed_arith))

-- what passes below a bound is found, and what is found passes
some_below-has : (bound : ℕ) (test : ℕ → Bool) (k : ℕ) → k < bound → test k ≡ true → some_below bound test ≡ true
unfolding some_below
some_below-has zero test k below passes = absurd (omega arith)
some_below-has (suc n) test k below passes =
    elim (cases_lt k n) [
      | inl lt ↦ let found = some_below-has n test k lt passes in rw found refl
      | inr ge ↦ let same : n ≡ k = omega arith in rw same (rw passes (grind arith))
    ]

some_below-found : (bound : ℕ) (test : ℕ → Bool) → some_below bound test ≡ true → (k : ℕ) × (k < bound) × (test k ≡ true)
unfolding some_below
some_below-found zero test found = absurd cc
some_below-found (suc n) test found =
    elim (or_cases (some_below n test) (test n) found) [
      | inl early ↦ let found_early = some_below-found n test early in (found_early.0, omega (arith, found_early.1), found_early.2)
      | inr here ↦ (n, omega arith, here)
    ]

-- a minute that passes
pub record Passes (test : Civil → Bool) : Type 0 where
  pub minute : Civil
  pub real : IsCivilSecond minute
  pub whole : minute.second ≡ 0
  pub passes : test minute ≡ true

-- what passes among all minutes is found
some_minute-has : (test : Civil → Bool) → Passes test → some_minute test ≡ true
unfolding some_minute
some_minute-has test found =
    let d = found.minute in
    let date = found.real.date in
    let short = days_in_month_bounds (pos d.year) d.month in
    let same : minute_at d.year d.month d.day d.hour d.minute ≡ d =
    ap (λ s. let e : Civil = record { year = d.year; month = d.month; day = d.day; hour = d.hour; minute = d.minute; second = s } in e) (sym found.whole) in
    let civil : is_civil (minute_at d.year d.month d.day d.hour d.minute) ≡ true = subst (λ x. is_civil x ≡ true) (sym same) (IsCivilSecond-is_civil d found.real) in
    let passes : test (minute_at d.year d.month d.day d.hour d.minute) ≡ true = subst (λ x. test x ≡ true) (sym same) found.passes in
    some_below-has 2200 _ d.year (let high = date.to_2199 in omega arith)
    (some_below-has 13 _ d.month (let high = date.month_high in omega arith)
    (some_below-has 32 _ d.day (let high = date.day_high in omega arith)
    (some_below-has 24 _ d.hour (let high = found.real.hour in omega arith)
    (some_below-has 60 _ d.minute (let high = found.real.minute in omega arith)
    (and_from _ _ civil passes)))))

-- and what is found passes
some_minute-found : (test : Civil → Bool) → some_minute test ≡ true → Passes test
unfolding some_minute
some_minute-found test found =
    let in_year = some_below-found 2200 _ found in
    let in_month = some_below-found 13 _ in_year.2 in
    let in_day = some_below-found 32 _ in_month.2 in
    let in_hour = some_below-found 24 _ in_day.2 in
    let in_minute = some_below-found 60 _ in_hour.2 in
    let parts = and_parts _ _ in_minute.2 in
    record {
      minute = minute_at in_year.0 in_month.0 in_day.0 in_hour.0 in_minute.0;
      real = is_civil-true _ parts.0;
      whole = refl;
      passes = parts.1;
    }

in_time-true : (moment : ℕ) → moment ≤ last_moment → nat_le moment last_moment ≡ true
in_time-true moment le = grind (arith, nat_tests)

true-in_time : (moment : ℕ) → nat_le moment last_moment ≡ true → moment ≤ last_moment
true-in_time moment test = grind (arith, nat_tests)

-- `at`
pub from_at : (zone : ZoneText) (d : Civil) (anchor moment : ℕ) → IsCivilSecond d → IsAtInstant zone d moment → IsInstant (At d) zone anchor moment
unfolding is_instant
from_at zone d anchor moment real fact =
    and_from _ _ (in_time-true moment fact.in_time)
    (and_from _ _ (IsCivilSecond-is_civil d real) (shown_here (conv zone d) moment fact.shown))

pub at_fact : (zone : ZoneText) (d : Civil) (anchor moment : ℕ) → IsInstant (At d) zone anchor moment → IsAtInstant zone d moment
unfolding is_instant
at_fact zone d anchor moment test =
    let parts = and_parts _ _ test in
    record {
      in_time = true-in_time moment parts.0;
      shown = here_shown (conv zone d) moment (and_parts _ _ parts.1).1;
    }

-- its civil second is a real one
pub at_real : (zone : ZoneText) (d : Civil) (anchor moment : ℕ) → IsInstant (At d) zone anchor moment → is_civil d ≡ true
unfolding is_instant
at_real zone d anchor moment test = (and_parts _ _ (and_parts _ _ test).1).0

-- rates
step-true : (seconds anchor moment : ℕ) → IsStep seconds anchor moment → is_step seconds anchor moment ≡ true
step-true seconds anchor moment step =
    let is = step.is in
    let passed : moment - anchor ≡ 0 + step.times * seconds = omega arith in
    let whole : (moment - anchor) % seconds ≡ 0 = ap (λ n. n % seconds) passed ∙ add-mul-mod_self_right 0 step.times seconds ∙ zero-mod seconds in
    and_from (nat_le anchor moment) ((moment - anchor) % seconds == 0) (grind (arith, nat_tests)) (rw whole refl)

true-step : (seconds anchor moment : ℕ) → is_step seconds anchor moment ≡ true → IsStep seconds anchor moment
true-step seconds anchor moment test =
    let parts = and_parts (nat_le anchor moment) ((moment - anchor) % seconds == 0) test in
    let late : anchor ≤ moment = let h = parts.0 in grind (arith, nat_tests) in
    let whole : (moment - anchor) % seconds ≡ 0 = let h = parts.1 in grind (arith, nat_tests) in
    let divided = div-add-mod' (moment - anchor) seconds in
    record { times = (moment - anchor) / seconds; is = omega arith }

pub from_rate : (zone : ZoneText) (count : ℕ) (unit : RateUnit) (anchor moment : ℕ) → IsRateInstant (period count unit) anchor moment → IsInstant (Rate count unit) zone anchor moment
unfolding is_instant
from_rate zone count unit anchor moment fact =
    and_from _ _ (in_time-true moment fact.in_time) (step-true (period count unit) anchor moment fact.step)

pub rate_fact : (zone : ZoneText) (count : ℕ) (unit : RateUnit) (anchor moment : ℕ) → IsInstant (Rate count unit) zone anchor moment → IsRateInstant (period count unit) anchor moment
unfolding is_instant
rate_fact zone count unit anchor moment test =
    let parts = and_parts _ _ test in
    record {
      in_time = true-in_time moment parts.0;
      step = true-step (period count unit) anchor moment parts.1;
    }

-- crons
pub from_cron : (zone : ZoneText) (sets : CronSets) (anchor moment : ℕ) → IsCronInstant sets zone moment → IsInstant (Cron sets) zone anchor moment
unfolding is_instant
from_cron zone sets anchor moment fact =
    and_from _ _ (in_time-true moment fact.in_time)
    (some_minute-has (λ d. fits sets d && is_shown zone d moment) (record {
      minute = fact.minute;
      real = fact.fitting.real;
      whole = fact.fitting.whole;
      passes = and_from _ _ fact.fitting.fits (shown_here (conv zone fact.minute) moment fact.shown);
    }))

pub cron_fact : (zone : ZoneText) (sets : CronSets) (anchor moment : ℕ) → IsInstant (Cron sets) zone anchor moment → IsCronInstant sets zone moment
unfolding is_instant
cron_fact zone sets anchor moment test =
    let parts = and_parts _ _ test in
    let found = some_minute-found (λ d. fits sets d && is_shown zone d moment) parts.1 in
    let passes = and_parts _ _ found.passes in
    record {
      in_time = true-in_time moment parts.0;
      minute = found.minute;
      fitting = record { real = found.real; whole = found.whole; fits = passes.0 };
      shown = here_shown (conv zone found.minute) moment passes.1;
    }

-- no instant comes after the last moment
pub in_time : (expr : Expr) (zone : ZoneText) (anchor moment : ℕ) → IsInstant expr zone anchor moment → moment ≤ last_moment
in_time (At d) zone anchor moment test = (at_fact zone d anchor moment test).in_time
in_time (Rate count unit) zone anchor moment test = (rate_fact zone count unit anchor moment test).in_time
in_time (Cron sets) zone anchor moment test = (cron_fact zone sets anchor moment test).in_time

-- two properties that say the same have the same next moment
pub next_as : (P Q : ℕ → Type 0) (from : ℕ) (o : Option ℕ) → ((m : ℕ) → P m → Q m) → ((m : ℕ) → Q m → P m) → IfSome o (IsNext P from) → IfSome o (IsNext Q from)
next_as P Q from None there back next = tt
next_as P Q from (Some first) there back next = record {
  has = there first next.has;
  after = next.after;
  least = λ later has late. next.least later (back later has) late;
}

-- and none where the other has none
pub none_as : (P Q : ℕ → Type 0) (from : ℕ) (o : Option ℕ) → ((m : ℕ) → Q m → P m) → IfNone o (HasNoNext P from) → IfNone o (HasNoNext Q from)
none_as P Q from None back none = λ later has late. none later (back later has) late
none_as P Q from (Some first) back none = tt
