-- What a day that is allowed has in each level of the search.
use Rattle.std.proofs.Common.{ℕ, ◌≤◌, arith, pos, IsTrue}
use Rattle.std.proofs.lemmas.Bool.Decides.{nat_tests}
use Rattle.jiff_core.proofs.CalendarLemmas.{days_in_month_bounds}
use Rattle.cron_search.specs.CivilTime.{IsCivilDate}
use Rattle.cron_search.specs.Fit.{has_value, has_year}
use Rattle.cron_search.specs.Levels.{IsFittingDate}
use Rattle.cron_search.specs.declared.date.Date.{Date}
use Rattle.expressions.specs.declared.expression.CronSets.{CronSets}

-- no month has more than 31 days
pub day_small : (y m d : ℕ) → IsCivilDate y m d → d ≤ 31
day_small y m d day = omega (arith, day.day_high, (days_in_month_bounds (pos y) m).0)

pub in_months : (s : CronSets) (d : Date) → IsFittingDate s d → IsTrue (has_value s.months d.month)
in_months s d fit = let h = fit.fits in grind (arith, nat_tests)

pub in_years : (s : CronSets) (d : Date) → IsFittingDate s d → IsTrue (has_year s d.year)
in_years s d fit = let h = fit.fits in grind (arith, nat_tests)
