use Rattle.std.proofs.Common.{◌≡◌, arith, pos, ap, ◌∙◌, w16, to_z}
use Rattle.std.proofs.lemmas.Int.{ints}
use Rattle.jiff_core.specs.Calendar.{days_from_civil}
use Rattle.jiff_core.specs.DateTime.{civil_seconds}
use Rattle.cron_search.specs.CivilTime.{day_number}
use Rattle.cron_search.proofs.DayNumbers.{days_from_civil-day_number}
use Rattle.civil_time.proofs.library.library_time.Goals as goal

pub returns-clause-second : goal.returns-clause-second
unfolding civil_seconds
returns-clause-second c =
    let d = c.args.d in
    let date = c.requires.date in
    let year : to_z w16 d.year ≡ pos d.year = omega (arith, ints) in
    let day : days_from_civil (to_z w16 d.year) d.month d.day ≡ pos (day_number d.year d.month d.day) =
    ap (λ y. days_from_civil y d.month d.day) year
    ∙ days_from_civil-day_number d.year d.month d.day date.from_1970 date.day_low in
    omega (arith, ints, day)
