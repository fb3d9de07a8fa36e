use Rattle.std.proofs.Common.{refl}
use Rattle.reply_bodies.proofs.Ids.{IsUtf8-id_text}
use Rattle.reply_bodies.proofs.arns.id_of.Goals as goal

pub returns : goal.returns
returns c = rw (c.from_string.ensures, c.in_ok-id.ensures.ok (rw c.print_id.ensures (IsUtf8-id_text c.args.inc c.args.instant)), c.print_id.ensures) refl
