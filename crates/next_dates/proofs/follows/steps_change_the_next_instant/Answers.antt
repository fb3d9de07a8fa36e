use Rattle.next_dates.proofs.NextSteps.{next_stays, next_created, next_renewed, next_ended, next_entered}
use Rattle.next_dates.proofs.follows.steps_change_the_next_instant.Goals as goal

pub returns-clause-stays : goal.returns-clause-stays
returns-clause-stays c = next_stays

pub returns-clause-created : goal.returns-clause-created
returns-clause-created c = next_created

pub returns-clause-renewed : goal.returns-clause-renewed
returns-clause-renewed c = next_renewed

pub returns-clause-ended : goal.returns-clause-ended
returns-clause-ended c = next_ended

pub returns-clause-entered : goal.returns-clause-entered
returns-clause-entered c = next_entered
