use Rattle.work_order.proofs.Unopened.{opens_nothing}
use Rattle.work_order.proofs.revisions.changes_open_nothing.Goals as goal

pub returns : goal.returns
returns c = opens_nothing
