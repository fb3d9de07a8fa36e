use Rattle.live_attempts.proofs.Counted.{steps_add_two, ends_pay}
use Rattle.live_attempts.proofs.counts.live_attempts_are_few.Goals as goal

pub returns-clause-adds : goal.returns-clause-adds
returns-clause-adds c = steps_add_two

pub returns-clause-ends : goal.returns-clause-ends
returns-clause-ends c = ends_pay
