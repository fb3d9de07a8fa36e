-- Days of one month: their numbers differ as the days do.
use Rattle.std.proofs.Common.{◌≡◌, ℕ, ◌+◌, ◌-◌, ◌*◌, ◌%◌, arith, ap, pos, IsTrue}
use Rattle.jiff_core.proofs.CalendarLemmas.{day_count-day}
use Rattle.cron_search.specs.CivilTime.{day_number, month_length, weekday_of, IsCivilDate}
use Rattle.cron_search.specs.Fit.{has_value, fits_day}
use Rattle.expressions.specs.declared.expression.DayRule.TheVariants.{LastOf, Nth}
use Rattle.std.proofs.lemmas.Bool.Decides.{nat_tests}
use Rattle.cron_search.proofs.DayNumbers.{day_number-count}

pub one_month : (y m d e : ℕ) → IsCivilDate y m d → IsCivilDate y m e → day_number y m d + e ≡ day_number y m e + d
one_month y m d e day other =
    omega (arith, day_number-count y m d day.from_1970 day.day_low, day_number-count y m e other.from_1970 other.day_low, day_count-day (pos y) m d e day.day_low other.day_low)

-- the last day of a weekday lies as far before the month's last day as the weekdays say
pub last_one : (y m w e : ℕ) → IsCivilDate y m e → IsTrue (fits_day (LastOf w) y m e) → month_length y m - (weekday_of y m (month_length y m) + 7 - w) % 7 ≡ e
unfolding fits_day
last_one y m w e day fits =
    let last : IsCivilDate y m (month_length y m) = record {
      from_1970 = day.from_1970;
      to_2199 = day.to_2199;
      month_low = day.month_low;
      month_high = day.month_high;
      day_low = omega (arith, day.day_low, day.day_high);
      day_high = omega arith;
    } in
    let apart = one_month y m (month_length y m) e last day in
    grind (arith, nat_tests)

-- the nth day of a weekday lies n - 1 weeks after the first
pub nth_one : (y m w k e : ℕ) → IsCivilDate y m e → IsTrue (fits_day (Nth w k) y m e) → 1 + (w + 7 - weekday_of y m 1) % 7 + 7 * (k - 1) ≡ e
unfolding fits_day
nth_one y m w k e day fits =
    let first : IsCivilDate y m 1 = record {
      from_1970 = day.from_1970;
      to_2199 = day.to_2199;
      month_low = day.month_low;
      month_high = day.month_high;
      day_low = omega arith;
      day_high = omega (arith, day.day_low, day.day_high);
    } in
    let apart = one_month y m 1 e first day in
    grind (arith, nat_tests)

-- k days later the weekday has gone on by k
pub in_step : (set y m d k e w : ℕ) → IsCivilDate y m d → IsCivilDate y m e → e ≡ d + k → w ≡ weekday_of y m d → has_value set (weekday_of y m e) ≡ has_value set ((w + k - 1) % 7 + 1)
in_step set y m d k e w day later apart here =
    let numbers = one_month y m d e day later in
    ap (has_value set) (omega arith)
