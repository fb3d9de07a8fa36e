use Rattle.std.proofs.Common.{◌≡◌, ◌+◌, ◌≤◌, arith, inl, inr}
use Rattle.std.proofs.lemmas.Bool.{cases_lt}
use Rattle.cron_search.specs.Levels.{date_key, IsFittingDate}
use Rattle.cron_search.specs.declared.date.Date.{Date}
use Rattle.cron_search.proofs.Fitting.{day_small, in_years}
use Rattle.cron_search.proofs.date.next_in_years.Goals as goal

pub returns-in-Some-next_in_year-clause-found : goal.returns-in-Some-next_in_year-clause-found
returns-in-Some-next_in_year-clause-found c =
    let found = c.in-Some-next_in_year.ensures.found in
    record {
      has = found.has.date;
      after = omega (arith, found.after);
      least = λ e fit le.
          let small = day_small e.year e.month e.day fit.real in
          let far : date_key c.loop-year.cursor ≤ date_key e = c.loop-year.invariant.searched e fit le in
          let reached = c.in-Some.ensures.found.least e.year (record { to_2199 = fit.real.to_2199; has = in_years _ e fit }) (omega (arith, fit.real.month_high)) in
          elim (cases_lt c.in-Some.year e.year) [
            | inl lt ↦ omega (arith, day_small _ _ _ found.has.date.real, found.has.date.real.month_high, found.has.same_year)
            | inr ge ↦
                let year_is : e.year ≡ c.start_in_year.result.year = omega arith in
                found.least e (record { date = fit; same_year = year_is }) (c.start_in_year.ensures.least e fit.real.month_low fit.real.day_low (omega arith) far)
          ];
    }

-- what is left after a year without an allowed day lies after that year
passed : (c : goal.In_default-next_in_year) (e : Date) → IsFittingDate c.args.sets.now e → date_key c.args.from ≤ date_key e → c.in-Some.year + 1 ≤ e.year
passed c e fit le =
    let small = day_small e.year e.month e.day fit.real in
    let far : date_key c.loop-year.cursor ≤ date_key e = c.loop-year.invariant.searched e fit le in
    let reached = c.in-Some.ensures.found.least e.year (record { to_2199 = fit.real.to_2199; has = in_years _ e fit }) (omega (arith, fit.real.month_high)) in
    elim (cases_lt c.in-Some.year e.year) [
      | inl lt ↦ omega arith
      | inr ge ↦
          let year_is : e.year ≡ c.start_in_year.result.year = omega arith in
          absurd (c.in_default-next_in_year.ensures.none e (record { date = fit; same_year = year_is }) (c.start_in_year.ensures.least e fit.real.month_low fit.real.day_low (omega arith) far))
    ]

pub loop-year-preserved : goal.loop-year-preserved
loop-year-preserved c = record {
  from_1970 = omega (arith, c.in-Some.ensures.found.after);
  to_2200 = omega (arith, c.in-Some.ensures.found.has.to_2199);
  month_low = omega arith;
  month_high = omega arith;
  day_low = omega arith;
  day_high = omega arith;
  later = omega (arith, c.in-Some.ensures.found.after);
  searched = λ e fit le. omega (arith, passed c e fit le, fit.real.day_low, fit.real.month_low);
}

pub returns-clause-none : goal.returns-clause-none
returns-clause-none c e fit le =
    let small = day_small e.year e.month e.day fit.real in
    let far : date_key c.loop-year.cursor ≤ date_key e = c.loop-year.invariant.searched e fit le in
    c.in_default.ensures.none e.year (record { to_2199 = fit.real.to_2199; has = in_years _ e fit }) (omega (arith, fit.real.month_high))
