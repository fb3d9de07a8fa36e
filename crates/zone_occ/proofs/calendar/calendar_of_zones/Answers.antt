use Rattle.zone_occ.proofs.CalendarLaws.{ats_in_utc, zones}
use Rattle.zone_occ.proofs.calendar.calendar_of_zones.Goals as goal

pub returns-clause-utc : goal.returns-clause-utc
returns-clause-utc c = ats_in_utc

pub returns-clause-zones : goal.returns-clause-zones
returns-clause-zones c = zones
