use Rattle.std.proofs.Common.{◌≡◌, ℕ, ◌-◌, ◌*◌, List}
use Rattle.min_tree.specs.Heap.{row}
use Rattle.min_tree.specs.Walk.{IsNode, Passed}
use Rattle.min_tree.proofs.walk.climb.Given as goal

-- the walk stands at a node, and has passed what lies to its left
pub record Climbing (tree : List ℕ) (leaves levels from bound level first at : ℕ) : Type 0 where
  pub node : IsNode leaves levels at level
  pub first_is : first ≡ row (levels - level)
  pub passed : Passed tree leaves from bound level at

abbrev pub invariant-loop-at : goal.invariant-loop-at
invariant-loop-at l = Climbing l.tree l.leaves l.levels l.from l.bound l.level l.first l.at

abbrev pub decreases-loop-at : goal.decreases-loop-at
decreases-loop-at l = 2 * l.first - l.at
