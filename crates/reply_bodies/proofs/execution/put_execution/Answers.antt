use Rattle.std.proofs.Common.{refl}
use Rattle.reply_bodies.specs.Executions.{execution_members}
use Rattle.reply_bodies.proofs.Pieces.{object_written}
use Rattle.reply_bodies.proofs.execution.put_execution.Goals as goal

pub returns : goal.returns
returns c =
    object_written c.end_object.result c.args.body.now c.begin_object.new.self c.text-3.new.self c.end_object.new.self (execution_members c.args.group.now c.args.name.now c.args.inc c.args.instant c.args.entry c.args.attempts.now)
    c.in_ok-begin_object.ensures (
      c.put_attempts.new.body,
      c.in_ok-put_attempts.ensures,
      (
        c.number.new.self,
        c.in_ok-number.ensures,
        (
          c.text.new.self,
          rw (c.as_str.ensures, c.in_ok-id.ensures) at c.in_ok-text.ensures,
          (
            c.number-2.new.self,
            c.in_ok-number-2.ensures,
            (
              c.text-2.new.self,
              rw c.decided_word.ensures at c.in_ok-text-2.ensures,
              (c.text-3.new.self, rw (c.as_str-2.ensures, c.in_ok-arn.ensures) at c.in_ok-text-3.ensures, refl),
            ),
          ),
        ),
      ),
    )
    c.end_object.ensures
