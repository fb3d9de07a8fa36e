use Rattle.reply_bodies.proofs.Pieces.{together}
use Rattle.reply_bodies.proofs.letters.put_letter.Goals as goal

pub returns : goal.returns
returns c = rw (c.in_ok-text-3.ensures, c.as_str-2.ensures, c.in_ok-arn.ensures, c.in_ok-text-2.ensures, c.outcome_word.ensures, c.in_ok-number.ensures, c.in_ok-text.ensures, c.as_str.ensures, c.in_ok-id.ensures, c.in_ok-begin_object.ensures, together, together, together, together, together) at c.end_object.ensures
