use Rattle.work_order.proofs.LivingAct.{only_living_act, zones_are_known}
use Rattle.work_order.proofs.living.only_living_schedules_act.Goals as goal

pub returns-clause-acts : goal.returns-clause-acts
returns-clause-acts c = only_living_act

pub returns-clause-zones : goal.returns-clause-zones
returns-clause-zones c = zones_are_known
