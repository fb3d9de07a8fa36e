use Rattle.std.proofs.Common.{◌≡◌, ◌++◌, take}
use Rattle.std.specs.List.{flat_map}
use Rattle.reply_bodies.specs.Schedules.{list_row_shown}
use Rattle.reply_bodies.proofs.schedules.put_each_row.Given as goal

abbrev pub invariant-loop-row : goal.invariant-loop-row
invariant-loop-row l = l.body ≡ l.initial.body ++ flat_map list_row_shown (take l.row-index l.rows)
