use Rattle.std.proofs.Common.{◌≡◌, ◌++◌, take}
use Rattle.std.specs.List.{flat_map}
use Rattle.reply_bodies.specs.Groups.{group_shown}
use Rattle.reply_bodies.proofs.groups.put_each_group.Given as goal

abbrev pub invariant-loop-row : goal.invariant-loop-row
invariant-loop-row l = l.body ≡ l.initial.body ++ flat_map group_shown (take l.row-index l.groups)
