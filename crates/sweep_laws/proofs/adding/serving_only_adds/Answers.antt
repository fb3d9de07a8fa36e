use Rattle.sweep_laws.proofs.Additions.{worked_adds, caught_adds, swept_adds, serves_add}
use Rattle.sweep_laws.proofs.adding.serving_only_adds.Goals as goal

pub returns-clause-works : goal.returns-clause-works
returns-clause-works c = worked_adds

pub returns-clause-caught_up : goal.returns-clause-caught_up
returns-clause-caught_up c = caught_adds

pub returns-clause-sweeps : goal.returns-clause-sweeps
returns-clause-sweeps c = swept_adds

pub returns-clause-serves : goal.returns-clause-serves
returns-clause-serves c = serves_add
