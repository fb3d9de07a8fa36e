use Rattle.reply_bodies.proofs.Pieces.{together}
use Rattle.reply_bodies.proofs.execution.put_attempt.Goals as goal

pub returns : goal.returns
returns c = rw (c.in_ok-text.ensures, c.fate_word.ensures, c.in_ok-number-2.ensures, c.from.ensures, c.in_ok-number.ensures, c.in_ok-begin_object.ensures, together, together, together, together) at c.end_object.ensures
