use Rattle.std.proofs.Common.{◌≡◌, ◌++◌, take}
use Rattle.std.specs.List.{flat_map}
use Rattle.reply_bodies.specs.Executions.{letter_shown}
use Rattle.reply_bodies.proofs.letters.put_rows.Given as goal

abbrev pub invariant-loop-row : goal.invariant-loop-row
invariant-loop-row l = l.body ≡ l.initial.body ++ flat_map letter_shown (take l.row-index l.rows)
