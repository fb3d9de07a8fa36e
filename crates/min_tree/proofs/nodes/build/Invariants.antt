use Rattle.std.proofs.Common.{◌≡◌, ℕ, ◌*◌, ◌≤◌, List, length, drop}
use Rattle.min_tree.specs.Heap.{IsHeapFrom}
use Rattle.min_tree.proofs.nodes.build.Given as goal

-- every node from here on is right, and the leaves stay
pub record Built (tree initial : List ℕ) (leaves at : ℕ) : Type 0 where
  pub size : length tree ≡ 2 * leaves
  pub within : at ≤ leaves
  pub heap : IsHeapFrom tree leaves at
  pub same : drop leaves tree ≡ drop leaves initial

abbrev pub invariant-loop-node : goal.invariant-loop-node
invariant-loop-node l = Built l.tree l.initial.tree l.leaves l.node

abbrev pub decreases-loop-node : goal.decreases-loop-node
decreases-loop-node l = l.node
