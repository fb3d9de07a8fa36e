use Rattle.reply_bodies.proofs.Pieces.{together}
use Rattle.reply_bodies.proofs.schedules.put_rows.Goals as goal

pub returns : goal.returns
returns c = rw (c.in_ok-put_each_row.ensures, c.in_ok-begin_list.ensures, together, together) at c.end_list.ensures
