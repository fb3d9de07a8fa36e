use Rattle.std.proofs.Common.{refl, codes}
use Rattle.reply_bodies.specs.Schedules.{target_members}
use Rattle.reply_bodies.proofs.Pieces.{member_written}
use Rattle.reply_bodies.proofs.schedule.put_target.Goals as goal

pub returns : goal.returns
returns c =
    member_written c.end_object.result c.args.body.now c.begin_member.new.self c.text-2.new.self c.end_object.new.self (codes "Target") (target_members c.args.content.now)
    c.in_ok-begin_member.ensures (
      c.text.new.self,
      rw c.as_str.ensures at c.in_ok-text.ensures,
      (
        c.put_queue.new.body,
        c.in_ok-put_queue.ensures,
        (
          c.text_if_any.new.self,
          c.in_ok-text_if_any.ensures,
          (
            c.put_policy.new.body,
            c.in_ok-put_policy.ensures,
            (c.text-2.new.self, rw c.as_str-2.ensures at c.in_ok-text-2.ensures, refl),
          ),
        ),
      ),
    )
    c.end_object.ensures
