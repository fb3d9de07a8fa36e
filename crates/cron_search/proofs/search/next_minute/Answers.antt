use Rattle.std.proofs.Common.{◌+◌, ◌*◌, ◌≤◌, arith, inl, inr}
use Rattle.std.proofs.lemmas.Bool.{cases_lt}
use Rattle.cron_search.specs.Levels.{day_key, date_key, minute_of_day, minute_key}
use Rattle.cron_search.specs.Search.{IsFittingMinute}
use Rattle.expressions.specs.declared.expression.Civil.{Civil}
use Rattle.cron_search.proofs.Minutes.{date_of, time_of, fitting_time, first_from, none_from}
use Rattle.cron_search.proofs.search.next_minute.Goals as goal

pub returns-in_default-clause-none : goal.returns-in_default-clause-none
returns-in_default-clause-none c e fit le =
    c.in_default.ensures.none (time_of e) (fitting_time _ e fit) (omega arith)

-- what comes no earlier than `from` comes no earlier than the first fitting time of that day
reached : (c : goal.After-next_from_time) (e : Civil) → IsFittingMinute c.args.sets.now e → date_key c.args.date * 1440 + minute_of_day c.args.from ≤ minute_key e → date_key c.args.date * 1440 + minute_of_day c.in-Some-next_time.time ≤ minute_key e
reached c e fit le =
    elim (cases_lt (date_key c.args.date) (date_key (date_of e))) [
      | inl lt ↦ omega (arith, c.in-Some-next_time.ensures.found.has.hour, c.in-Some-next_time.ensures.found.has.minute)
      | inr ge ↦ omega (arith, fit.real.hour, fit.real.minute, c.in-Some-next_time.ensures.found.least (time_of e) (fitting_time _ e fit) (omega (arith, fit.real.hour, fit.real.minute)))
    ]

pub returns-in-Some-next_time-clause-found : goal.returns-in-Some-next_time-clause-found
returns-in-Some-next_time-clause-found c =
    first_from c.args.sets.now _ _ _ (omega (arith, c.in-Some-next_time.ensures.found.after)) (reached c) c.next_from_time.ensures.found

pub returns-in-Some-next_time-clause-none : goal.returns-in-Some-next_time-clause-none
returns-in-Some-next_time-clause-none c =
    none_from c.args.sets.now _ _ _ (reached c) c.next_from_time.ensures.none

-- where the day has no fitting time left, what comes no earlier than `from` comes on a later day
passed : (c : goal.After-next_from_day) (e : Civil) → IsFittingMinute c.args.sets.now e → date_key c.args.date * 1440 + minute_of_day c.args.from ≤ minute_key e → day_key c.args.date.year c.args.date.month (c.args.date.day + 1) * 1440 ≤ minute_key e
passed c e fit le =
    elim (cases_lt (date_key c.args.date) (date_key (date_of e))) [
      | inl lt ↦ omega arith
      | inr ge ↦ absurd (c.in-None.ensures.none (time_of e) (fitting_time _ e fit) (omega (arith, fit.real.hour, fit.real.minute)))
    ]

pub returns-in-None-clause-found : goal.returns-in-None-clause-found
returns-in-None-clause-found c =
    first_from c.args.sets.now _ _ _ (omega arith) (passed c) c.next_from_day.ensures.found

pub returns-in-None-clause-none : goal.returns-in-None-clause-none
returns-in-None-clause-none c =
    none_from c.args.sets.now _ _ _ (passed c) c.next_from_day.ensures.none
