use Rattle.reply_bodies.proofs.Pieces.{together}
use Rattle.reply_bodies.proofs.schedule.put_policy.Goals as goal

pub returns : goal.returns
returns c = rw (c.in_ok-number-2.ensures, c.from-2.ensures, c.in_ok-number.ensures, c.from.ensures, c.in_ok-begin_member.ensures, together, together, together) at c.end_object.ensures
