use Rattle.std.proofs.Common.{◌≢◌, arith}
use Rattle.cron_search.specs.Levels.{date_key}
use Rattle.cron_search.proofs.Minutes.{date_of, time_of, fitting_date, fitting_time, same_place, other_place}
use Rattle.cron_search.proofs.search.next_from_time.Goals as goal

pub returns-in-Some-clause-found : goal.returns-in-Some-clause-found
returns-in-Some-clause-found c =
    let same = same_place c.in-Some.next c.args.date c.if-eq.ensures in
    record {
      has = c.minute_at.ensures.fitting _ c.in-Some.ensures.found.has c.requires.time;
      after = omega (arith, c.minute_at.ensures.key);
      least = λ e fit le. omega (arith, c.minute_at.ensures.key);
    }

pub returns-in-Some-2-clause-found : goal.returns-in-Some-2-clause-found
returns-in-Some-2-clause-found c =
    let found = c.in-Some.ensures.found in
    let other : date_key c.in-Some.next ≢ date_key c.args.date =
    other_place c.in-Some.next c.args.date c.if-eq.ensures found.has.real c.requires.date in
    record {
      has = c.minute_at-in-Some-2.ensures.fitting _ found.has c.requires.earliest.has;
      after = omega (arith, c.minute_at-in-Some-2.ensures.key, found.after, c.requires.time.hour, c.requires.time.minute);
      least = λ e fit le.
          let early = c.requires.earliest.least (time_of e) (fitting_time _ e fit) (omega arith) in
          let first = found.least (date_of e) (fitting_date _ e fit) (omega (arith, fit.real.hour, fit.real.minute)) in
          omega (arith, c.minute_at-in-Some-2.ensures.key);
    }

pub returns-in-None-clause-none : goal.returns-in-None-clause-none
returns-in-None-clause-none c e fit le =
    c.in-None.ensures.none (date_of e) (fitting_date _ e fit) (omega (arith, fit.real.hour, fit.real.minute))
