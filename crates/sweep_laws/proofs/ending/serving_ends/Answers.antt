use Rattle.sweep_laws.proofs.WorkedOut.{work_ends, catch_ups_end, sweeps_end, rests_end, writes_accepted}
use Rattle.sweep_laws.proofs.ending.serving_ends.Goals as goal

pub returns-clause-works : goal.returns-clause-works
returns-clause-works c = work_ends

pub returns-clause-caught_up : goal.returns-clause-caught_up
returns-clause-caught_up c = catch_ups_end

pub returns-clause-sweeps : goal.returns-clause-sweeps
returns-clause-sweeps c = sweeps_end

pub returns-clause-accepted : goal.returns-clause-accepted
returns-clause-accepted c = writes_accepted

pub returns-clause-rest : goal.returns-clause-rest
returns-clause-rest c = rests_end
