use Rattle.std.proofs.Common.{ℕ, ◌≤◌, List}
use Rattle.min_tree.specs.Heap.{node}
use Rattle.min_tree.specs.Walk.{IsNode, Passed}
use Rattle.min_tree.proofs.walk.descend.Given as goal

-- the walk stands at a node that is at most the bound, and has passed what lies to its left
pub record Descending (tree : List ℕ) (leaves levels from bound level at : ℕ) : Type 0 where
  pub is_node : IsNode leaves levels at level
  pub passed : Passed tree leaves from bound level at
  pub low : node tree at ≤ bound

abbrev pub invariant-loop-level : goal.invariant-loop-level
invariant-loop-level l = Descending l.tree l.leaves l.levels l.from l.bound l.level l.at

abbrev pub decreases-loop-level : goal.decreases-loop-level
decreases-loop-level l = l.level
