use Rattle.sweep_laws.proofs.OneWay.{worked_one_way, caught_one_way, swept_one_way, served_one_way}
use Rattle.sweep_laws.proofs.determined.serving_has_one_result.Goals as goal

pub returns-clause-works : goal.returns-clause-works
returns-clause-works c = worked_one_way

pub returns-clause-caught_up : goal.returns-clause-caught_up
returns-clause-caught_up c = caught_one_way

pub returns-clause-sweeps : goal.returns-clause-sweeps
returns-clause-sweeps c = swept_one_way

pub returns-clause-serves : goal.returns-clause-serves
returns-clause-serves c = served_one_way
