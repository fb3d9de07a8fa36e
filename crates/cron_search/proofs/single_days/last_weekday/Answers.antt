use Rattle.std.proofs.Common.{ap, Some}
use Rattle.cron_search.proofs.MonthDays.{last_one}
use Rattle.cron_search.proofs.single_days.last_weekday.Goals as goal

pub returns-clause-only : goal.returns-clause-only
returns-clause-only c e fit =
    let same = last_one c.args.year c.args.month c.args.day e fit.real fit.fits in ap Some (cc)
