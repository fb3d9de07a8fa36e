use Rattle.sweep_laws.proofs.Kept.{worked, caught_up_keeps, caught_up_enters, swept_keeps, serves_keep}
use Rattle.sweep_laws.proofs.serving.serving_keeps_histories_legal.Goals as goal

pub returns-clause-works : goal.returns-clause-works
returns-clause-works c = worked

pub returns-clause-caught_up : goal.returns-clause-caught_up
returns-clause-caught_up c = caught_up_keeps

pub returns-clause-entered : goal.returns-clause-entered
returns-clause-entered c = caught_up_enters

pub returns-clause-sweeps : goal.returns-clause-sweeps
returns-clause-sweeps c = swept_keeps

pub returns-clause-serves : goal.returns-clause-serves
returns-clause-serves c = serves_keep
