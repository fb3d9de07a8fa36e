use Rattle.std.proofs.Common.{arith, pos, ◌≡◌, ap, w16, to_z, ◌∙◌}
use Rattle.std.proofs.lemmas.Int.{ints}
use Rattle.jiff_core.specs.Calendar.{days_from_civil}
use Rattle.cron_search.specs.CivilTime.{day_number}
use Rattle.cron_search.proofs.DayNumbers.{days_from_civil-day_number}
use Rattle.cron_search.proofs.calendar.day_number.Goals as goal

counted : (c : goal.After-to_unix_epoch_day) → c.to_unix_epoch_day.result ≡ pos (day_number c.args.year c.args.month c.args.day)
counted c =
    let year : to_z w16 c.args.year ≡ pos c.args.year = omega (arith, ints) in
    c.to_unix_epoch_day.ensures.value
    ∙ ap (λ y. days_from_civil y c.args.month c.args.day) year
    ∙ days_from_civil-day_number c.args.year c.args.month c.args.day (omega arith) (omega arith)

pub overflow_cast-result : goal.overflow_cast-result
overflow_cast-result c = omega (arith, ints, counted c)

pub returns : goal.returns
returns c = omega (arith, ints, counted c)
