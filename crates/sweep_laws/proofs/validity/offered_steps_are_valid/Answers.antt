use Rattle.sweep_laws.proofs.Valid.{valid_enter, valid_enter_work, valid_close, valid_attempt, valid_complete, valid_swept, valid_taking, valid_release}
use Rattle.sweep_laws.proofs.validity.offered_steps_are_valid.Goals as goal

pub returns-clause-enters : goal.returns-clause-enters
returns-clause-enters c = valid_enter

pub returns-clause-entered : goal.returns-clause-entered
returns-clause-entered c = valid_enter_work

pub returns-clause-closes : goal.returns-clause-closes
returns-clause-closes c = valid_close

pub returns-clause-attempts : goal.returns-clause-attempts
returns-clause-attempts c = valid_attempt

pub returns-clause-completes : goal.returns-clause-completes
returns-clause-completes c = valid_complete

pub returns-clause-swept : goal.returns-clause-swept
returns-clause-swept c = valid_swept

pub returns-clause-takes : goal.returns-clause-takes
returns-clause-takes c = valid_taking

pub returns-clause-releases : goal.returns-clause-releases
returns-clause-releases c = valid_release
