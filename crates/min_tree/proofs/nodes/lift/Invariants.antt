use Rattle.std.proofs.Common.{◌≡◌, ℕ, ◌*◌, ◌/◌, ◌<◌, List, length, drop}
use Rattle.min_tree.specs.Heap.{IsHeapBut}
use Rattle.min_tree.proofs.nodes.lift.Given as goal

-- every node but the one above is right, and the leaves stay
pub record Lifted (tree initial : List ℕ) (leaves at : ℕ) : Type 0 where
  pub size : length tree ≡ 2 * leaves
  pub within : at < 2 * leaves
  pub heap : IsHeapBut tree leaves (at / 2)
  pub same : drop leaves tree ≡ drop leaves initial

abbrev pub invariant-loop-node : goal.invariant-loop-node
invariant-loop-node l = Lifted l.tree l.initial.tree l.leaves l.node

abbrev pub decreases-loop-node : goal.decreases-loop-node
decreases-loop-node l = l.node
