use Rattle.std.proofs.Common.{arith}
use Rattle.cron_search.proofs.Minutes.{date_of, time_of, fitting_date, fitting_time}
use Rattle.cron_search.proofs.search.next_from_day.Goals as goal

pub returns-in-Some-clause-found : goal.returns-in-Some-clause-found
returns-in-Some-clause-found c =
    let found = c.in-Some.ensures.found in
    record {
      has = c.minute_at.ensures.fitting _ found.has c.requires.earliest.has;
      after = omega (arith, c.minute_at.ensures.key, found.after);
      least = λ e fit le.
          let early = c.requires.earliest.least (time_of e) (fitting_time _ e fit) (omega arith) in
          let first = found.least (date_of e) (fitting_date _ e fit) (omega (arith, fit.real.hour, fit.real.minute)) in
          omega (arith, c.minute_at.ensures.key);
    }

pub returns-in-None-clause-none : goal.returns-in-None-clause-none
returns-in-None-clause-none c e fit le =
    c.in-None.ensures.none (date_of e) (fitting_date _ e fit) (omega (arith, fit.real.hour, fit.real.minute))
