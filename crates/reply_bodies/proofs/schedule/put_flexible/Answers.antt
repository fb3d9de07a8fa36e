use Rattle.std.proofs.Common.{codes, refl}
use Rattle.reply_bodies.specs.Schedules.{flexible_members}
use Rattle.reply_bodies.proofs.Pieces.{member_written}
use Rattle.reply_bodies.proofs.schedule.put_flexible.Goals as goal

pub returns : goal.returns
returns c =
    member_written c.end_object.result c.args.body.now c.begin_member.new.self c.text.new.self c.end_object.new.self
    (codes "FlexibleTimeWindow") (flexible_members c.args.minutes)
    c.in_ok-begin_member.ensures (
      c.number.new.self,
      rw c.from.ensures at c.in_ok-number.ensures,
      (c.text.new.self, c.in_ok-text.ensures, refl),
    )
    c.end_object.ensures
