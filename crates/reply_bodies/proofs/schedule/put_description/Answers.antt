use Rattle.std.proofs.Common.{◌≡◌, ◌==◌, false, length, sym}
use Rattle.reply_bodies.proofs.schedule.put_description.Goals as goal

pub returns : goal.returns
returns c =
    let some : (length c.args.description.now == 0) ≡ false = rw c.as_bytes.ensures.value at (sym c.if-is_empty.ensures) in
    rw some (rw c.as_str.ensures at c.text.ensures)
