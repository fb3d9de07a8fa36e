use Rattle.std.proofs.Common.{◌≡◌, ◌+◌, ◌≤◌, refl, arith, inl, inr}
use Rattle.std.proofs.lemmas.Bool.{cases_lt}
use Rattle.cron_search.specs.Levels.{date_key, IsInYear}
use Rattle.cron_search.specs.declared.date.Date.{Date}
use Rattle.cron_search.proofs.Fitting.{day_small, in_months}
use Rattle.cron_search.proofs.date.next_in_year.Goals as goal

pub returns-in-Some-next_in_month-clause-found : goal.returns-in-Some-next_in_month-clause-found
returns-in-Some-next_in_month-clause-found c =
    let found = c.in-Some-next_in_month.ensures.found in
    record {
      has = record { date = found.has.date; same_year = omega (arith, found.has.same_year) };
      after = omega (arith, found.after);
      least = λ e fit le.
          let small = day_small e.year e.month e.day fit.date.real in
          let far : date_key c.loop-month.cursor ≤ date_key e = c.loop-month.invariant.searched e fit le in
          let reached = c.in-Some.ensures.found.least e.month (record { below = omega (arith, fit.date.real.month_high); has = in_months _ e fit.date }) (omega (arith, fit.same_year)) in
          elim (cases_lt c.in-Some.month e.month) [
            | inl lt ↦ omega (arith, day_small _ _ _ found.has.date.real, found.has.same_year, found.has.same_month, fit.same_year)
            | inr ge ↦
                let year_is : e.year ≡ c.start_in_month.result.year = omega (arith, fit.same_year) in
                let month_is : e.month ≡ c.start_in_month.result.month = omega arith in
                found.least e (record { date = fit.date; same_year = year_is; same_month = month_is }) (c.start_in_month.ensures.least e fit.date.real.day_low (omega (arith, fit.same_year)) (omega arith) far)
          ];
    }

-- what is left after a month without an allowed day lies after that month
passed : (c : goal.In_default-next_in_month) (e : Date) → IsInYear c.args.sets.now c.args.from.year e → date_key c.args.from ≤ date_key e → c.in-Some.month + 1 ≤ e.month
passed c e fit le =
    let small = day_small e.year e.month e.day fit.date.real in
    let far : date_key c.loop-month.cursor ≤ date_key e = c.loop-month.invariant.searched e fit le in
    let reached = c.in-Some.ensures.found.least e.month (record { below = omega (arith, fit.date.real.month_high); has = in_months _ e fit.date }) (omega (arith, fit.same_year)) in
    elim (cases_lt c.in-Some.month e.month) [
      | inl lt ↦ omega arith
      | inr ge ↦
          let year_is : e.year ≡ c.start_in_month.result.year = omega (arith, fit.same_year) in
          let month_is : e.month ≡ c.start_in_month.result.month = omega arith in
          absurd (c.in_default-next_in_month.ensures.none e (record { date = fit.date; same_year = year_is; same_month = month_is }) (c.start_in_month.ensures.least e fit.date.real.day_low (omega (arith, fit.same_year)) (omega arith) far))
    ]

pub loop-month-preserved : goal.loop-month-preserved
loop-month-preserved c = record {
  year = refl;
  month_low = omega arith;
  month_high = omega (arith, c.in-Some.ensures.found.has.below);
  day_low = omega arith;
  day_high = omega arith;
  later = omega (arith, c.in-Some.ensures.found.after);
  searched = λ e fit le. omega (arith, passed c e fit le, fit.date.real.day_low, fit.same_year);
}

pub returns-clause-none : goal.returns-clause-none
returns-clause-none c e fit le =
    let small = day_small e.year e.month e.day fit.date.real in
    let far : date_key c.loop-month.cursor ≤ date_key e = c.loop-month.invariant.searched e fit le in
    c.in_default.ensures.none e.month (record { below = omega (arith, fit.date.real.month_high); has = in_months _ e fit.date }) (omega (arith, fit.same_year))
