use Rattle.sched_calls.proofs.ServedHistories.{serves_rows}
use Rattle.sched_calls.proofs.examples.served_on_examples.Goals as goal

pub returns : goal.returns
returns c = serves_rows
