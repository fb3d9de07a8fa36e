use Rattle.std.proofs.Common.{◌≡◌, ◌++◌, take}
use Rattle.std.specs.List.{flat_map}
use Rattle.reply_bodies.specs.Executions.{attempt_shown}
use Rattle.reply_bodies.proofs.execution.put_each_attempt.Given as goal

abbrev pub invariant-loop-attempt : goal.invariant-loop-attempt
invariant-loop-attempt l = l.body ≡ l.initial.body ++ flat_map attempt_shown (take l.attempt-index l.attempts)
