use Rattle.std.proofs.Common.{refl}
use Rattle.reply_bodies.specs.Schedules.{schedule_members}
use Rattle.reply_bodies.proofs.Pieces.{object_written}
use Rattle.reply_bodies.proofs.schedule.put_schedule.Goals as goal

pub returns : goal.returns
returns c =
    object_written c.end_object.result c.args.body.now c.begin_object.new.self c.put_target.new.body c.end_object.new.self (schedule_members c.args.group.now c.args.name.now c.args.created c.args.changed c.args.content.now)
    c.in_ok-begin_object.ensures (
      c.text.new.self,
      rw c.action_word.ensures at c.in_ok-text.ensures,
      (
        c.text-2.new.self,
        rw (c.as_str.ensures, c.in_ok-arn.ensures) at c.in_ok-text-2.ensures,
        (
          c.number.new.self,
          c.in_ok-number.ensures,
          (
            c.put_description.new.body,
            c.in_ok-put_description.ensures,
            (
              c.number_if_any.new.self,
              c.in_ok-number_if_any.ensures,
              (
                c.put_window.new.body,
                c.in_ok-put_window.ensures,
                (
                  c.text-3.new.self,
                  rw c.as_str-2.ensures.value at c.in_ok-text-3.ensures,
                  (
                    c.number-2.new.self,
                    c.in_ok-number-2.ensures,
                    (
                      c.text-4.new.self,
                      rw c.as_str-3.ensures.value at c.in_ok-text-4.ensures,
                      (
                        c.text-5.new.self,
                        rw c.as_str-4.ensures at c.in_ok-text-5.ensures,
                        (
                          c.text-6.new.self,
                          rw c.as_str-5.ensures.value at c.in_ok-text-6.ensures,
                          (
                            c.number_if_any-2.new.self,
                            c.in_ok-number_if_any-2.ensures,
                            (
                              c.text-7.new.self,
                              rw c.state_word.ensures at c.in_ok-text-7.ensures,
                              (c.put_target.new.body, c.in_ok-put_target.ensures, refl),
                            ),
                          ),
                        ),
                      ),
                    ),
                  ),
                ),
              ),
            ),
          ),
        ),
      ),
    )
    c.end_object.ensures
