use Rattle.reply_bodies.proofs.Pieces.{together}
use Rattle.reply_bodies.proofs.schedules.put_row.Goals as goal

pub returns : goal.returns
returns c = rw (c.in_ok-end_object.ensures, c.in_ok-text-5.ensures, c.as_str-4.ensures, c.in_ok-begin_member.ensures, c.in_ok-text-4.ensures, c.state_word.ensures, c.in_ok-text-3.ensures, c.as_str-3.ensures.value, c.in_ok-number-2.ensures, c.in_ok-text-2.ensures, c.as_str-2.ensures.value, c.in_ok-number.ensures, c.in_ok-text.ensures, c.as_str.ensures, c.in_ok-arn.ensures, c.in_ok-begin_object.ensures, together, together, together, together, together, together, together, together, together, together) at c.end_object-2.ensures
