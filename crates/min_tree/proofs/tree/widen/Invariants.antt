use Rattle.std.proofs.Common.{◌≡◌, ◌-◌, ◌≤◌}
use Rattle.min_tree.specs.Numbers.{Numbers}
use Rattle.min_tree.proofs.tree.widen.Given as goal

-- the numbers stay, and the room with them
pub record Widening (now initial : Numbers) : Type 0 where
  pub values : now.values ≡ initial.values
  pub kept : initial.room ≤ now.room

abbrev pub invariant-loop-tree : goal.invariant-loop-tree
invariant-loop-tree l = Widening l.tree l.initial.tree

abbrev pub decreases-loop-tree : goal.decreases-loop-tree
decreases-loop-tree l = l.count - l.tree.room
