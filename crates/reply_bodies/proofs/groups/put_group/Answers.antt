use Rattle.reply_bodies.proofs.Pieces.{together}
use Rattle.reply_bodies.proofs.groups.put_group.Goals as goal

pub returns : goal.returns
returns c = rw (c.in_ok-text-3.ensures, c.in_ok-text-2.ensures, c.as_str-2.ensures.value, c.in_ok-number-2.ensures, c.in_ok-number.ensures, c.in_ok-text.ensures, c.as_str.ensures, c.in_ok-arn.ensures, c.in_ok-begin_object.ensures, together, together, together, together, together, together) at c.end_object.ensures
