use Rattle.std.proofs.Common.{◌≡◌, ℕ, ◌+◌, ◌-◌, ◌%◌, ◌≤◌, refl, arith, IsTrue, sym, ◌∙◌}
use Rattle.cron_search.specs.CivilTime.{IsCivilDate, month_length, weekday_of, weekday_after}
use Rattle.cron_search.specs.Fit.{fits_day, has_value}
use Rattle.cron_search.specs.Levels.{IsFittingDay}
use Rattle.expressions.specs.declared.expression.DayRule.TheVariants.{OfWeek}
use Rattle.cron_search.proofs.MonthDays.{in_step}
use Rattle.cron_search.proofs.week.next_in_week.Goals as goal

-- another day of the same month
day_of : (y m d : ℕ) → IsCivilDate y m 1 → 1 ≤ d → d ≤ month_length y m → IsCivilDate y m d
day_of y m d first low high = record {
  from_1970 = first.from_1970;
  to_2199 = first.to_2199;
  month_low = first.month_low;
  month_high = first.month_high;
  day_low = low;
  day_high = high;
}

-- a day of the set is as many days ahead as its weekday says
ahead : (set y m d e w : ℕ) → IsCivilDate y m 1 → 1 ≤ d → d ≤ e → IsCivilDate y m e → w ≡ weekday_of y m d → IsTrue (has_value set (weekday_of y m e)) → IsTrue (has_value set ((w + (e - d) - 1) % 7 + 1))
ahead set y m d e w first low le later here fits =
    sym (in_step set y m d (e - d) e w (day_of y m d first low (omega (arith, later.day_high))) later (omega arith) here) ∙ fits

-- a day of the set lies at least as far ahead as the first one
far : (set y m d e w days : ℕ) → ((j : ℕ) → IsTrue (has_value set (weekday_after w j)) → days ≤ j) → IsCivilDate y m 1 → 1 ≤ d → w ≡ weekday_of y m d → IsFittingDay (OfWeek set) y m e → d ≤ e → d + days ≤ e
unfolding fits_day
far set y m d e w days least first low here fit le =
    omega (arith, least (e - d) (ahead set y m d e w first low le fit.real here fit.fits))

pub returns-in-Some-clause-found : goal.returns-in-Some-clause-found
unfolding fits_day
returns-in-Some-clause-found c =
    let here = day_of c.args.year c.args.month c.args.from c.requires.month (omega arith) (omega (arith, c.days_in_month-length.ensures.value)) in
    let there = day_of c.args.year c.args.month (c.args.from + c.in-Some.days) c.requires.month (omega arith) (omega (arith, c.days_in_month-length.ensures.value)) in
    record {
      has = record {
        real = there;
        fits = in_step c.args.set c.args.year c.args.month c.args.from c.in-Some.days _ c.weekday.result here there refl c.weekday.ensures ∙ c.in-Some.ensures.found.0;
      };
      after = omega arith;
      least = λ e fit le. far c.args.set c.args.year c.args.month c.args.from e c.weekday.result c.in-Some.days c.in-Some.ensures.least c.requires.month (omega arith) c.weekday.ensures fit le;
    }

pub returns-in_default-clause-none : goal.returns-in_default-clause-none
returns-in_default-clause-none c e fit le =
    omega (arith, far c.args.set c.args.year c.args.month c.args.from e c.weekday.result c.in-Some.days c.in-Some.ensures.least c.requires.month (omega arith) c.weekday.ensures fit le, fit.real.day_high, c.days_in_month-length.ensures.value)

pub returns-in_default-2-clause-none : goal.returns-in_default-2-clause-none
unfolding fits_day
returns-in_default-2-clause-none c e fit le =
    c.in_default.ensures.none (e - c.args.from) (ahead c.args.set c.args.year c.args.month c.args.from e c.weekday.result c.requires.month (omega arith) le fit.real c.weekday.ensures fit.fits)
