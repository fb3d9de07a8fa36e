use Rattle.std.proofs.Common.{ap, arith, Some}
use Rattle.cron_search.proofs.MonthDays.{nth_one}
use Rattle.cron_search.proofs.single_days.nth_weekday.Goals as goal

pub returns-then-nth_day-days_in_month-clause-only : goal.returns-then-nth_day-days_in_month-clause-only
returns-then-nth_day-days_in_month-clause-only c e fit =
    let same = nth_one c.args.year c.args.month c.args.day c.args.nth e fit.real fit.fits in ap Some (cc)

pub returns-else-nth_day-days_in_month-clause-only : goal.returns-else-nth_day-days_in_month-clause-only
returns-else-nth_day-days_in_month-clause-only c e fit =
    let same = nth_one c.args.year c.args.month c.args.day c.args.nth e fit.real fit.fits in absurd (omega arith)
