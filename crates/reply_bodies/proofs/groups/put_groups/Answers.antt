use Rattle.reply_bodies.proofs.Pieces.{together}
use Rattle.reply_bodies.proofs.groups.put_groups.Goals as goal

pub returns : goal.returns
returns c = rw (c.in_ok-put_each_group.ensures, c.in_ok-begin_list.ensures, together, together) at c.end_list.ensures
