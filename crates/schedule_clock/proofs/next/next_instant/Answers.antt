use Rattle.std.proofs.Common.{sym}
use Rattle.sched_plain.specs.Items.{opened}
use Rattle.sched_plain.specs.Occurrences.{occurs}
use Rattle.zone_occ.specs.ZoneCalendar.{zone_calendar}
use Rattle.next_dates.specs.Dates.{from_on}
use Rattle.schedule_clock.specs.Acting.{acts}
use Rattle.schedule_clock.proofs.Acting.{occurs_acts, least_as}
use Rattle.schedule_clock.proofs.next.next_instant.Goals as goal

pub returns-clause-occurs : goal.returns-clause-occurs
returns-clause-occurs c bytes first is begun =
    let a = c.args in
    least_as (from_on a.from (acts a.content.now a.zone.now a.created.0)) (from_on a.from (occurs zone_calendar (opened bytes a.created.0 first a.content.now))) c.next_acting.result
    (λ i. sym (occurs_acts a.content.now bytes a.zone.now a.created.0 first a.from i is begun)) c.next_acting.ensures
