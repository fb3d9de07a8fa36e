use Rattle.work_order.proofs.Followed.{entries_follow}
use Rattle.work_order.proofs.revisions.entries_follow_revisions.Goals as goal

pub returns : goal.returns
returns c = entries_follow
