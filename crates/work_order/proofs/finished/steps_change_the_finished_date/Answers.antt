use Rattle.work_order.proofs.FinishedSteps.{finished_stays, completed_is_not_finished}
use Rattle.work_order.proofs.finished.steps_change_the_finished_date.Goals as goal

pub returns-clause-stays : goal.returns-clause-stays
returns-clause-stays c = finished_stays

pub returns-clause-completed : goal.returns-clause-completed
returns-clause-completed c = completed_is_not_finished
