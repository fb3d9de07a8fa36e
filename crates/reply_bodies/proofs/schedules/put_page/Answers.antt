use Rattle.std.proofs.Common.{refl}
use Rattle.reply_bodies.specs.Schedules.{page_members}
use Rattle.reply_bodies.proofs.Pieces.{object_written}
use Rattle.reply_bodies.proofs.schedules.put_page.Goals as goal

pub returns : goal.returns
returns c =
    object_written c.end_object.result c.args.body.now c.begin_object.new.self c.put_rows.new.body c.end_object.new.self (page_members c.args.page.now)
    c.in_ok-begin_object.ensures (
      c.text_if_any.new.self,
      rw c.in_ok-next.ensures at c.in_ok-text_if_any.ensures,
      (c.put_rows.new.body, rw c.as_slice.ensures at c.in_ok-put_rows.ensures, refl),
    )
    c.end_object.ensures
