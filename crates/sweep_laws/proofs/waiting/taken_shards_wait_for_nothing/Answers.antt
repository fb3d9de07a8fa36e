use Rattle.sweep_laws.proofs.Rest.{none_taken, none_entered, none_closed, none_attempted, none_completed, never_waits}
use Rattle.sweep_laws.proofs.waiting.taken_shards_wait_for_nothing.Goals as goal

pub returns-clause-taken : goal.returns-clause-taken
returns-clause-taken c = none_taken

pub returns-clause-entered : goal.returns-clause-entered
returns-clause-entered c = none_entered

pub returns-clause-closed : goal.returns-clause-closed
returns-clause-closed c = none_closed

pub returns-clause-attempted : goal.returns-clause-attempted
returns-clause-attempted c = none_attempted

pub returns-clause-completed : goal.returns-clause-completed
returns-clause-completed c = none_completed

pub returns-clause-never : goal.returns-clause-never
returns-clause-never c = never_waits
