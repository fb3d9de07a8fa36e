use Rattle.sweep_laws.proofs.Follow.{may_enter, may_close, may_begin, may_end, may_complete, may_sweep, may_take, may_release}
use Rattle.sweep_laws.proofs.following.offered_steps_may_follow.Goals as goal

pub returns-clause-enters : goal.returns-clause-enters
returns-clause-enters c = may_enter

pub returns-clause-closes : goal.returns-clause-closes
returns-clause-closes c = may_close

pub returns-clause-begins : goal.returns-clause-begins
returns-clause-begins c = may_begin

pub returns-clause-ends : goal.returns-clause-ends
returns-clause-ends c = may_end

pub returns-clause-completes : goal.returns-clause-completes
returns-clause-completes c = may_complete

pub returns-clause-swept : goal.returns-clause-swept
returns-clause-swept c = may_sweep

pub returns-clause-takes : goal.returns-clause-takes
returns-clause-takes c = may_take

pub returns-clause-releases : goal.returns-clause-releases
returns-clause-releases c = may_release
