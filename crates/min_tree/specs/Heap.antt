-- The nodes of the tree: each one that is no leaf is the lesser of its two children.
use Rattle.min_tree.specs.declared.nodes.TheConstants.{ABOVE_ALL, MOST_LEAVES}
use Rattle.std.specs.Prelude.{◌≡◌, ℕ, zero, suc, ◌+◌, ◌*◌, ◌≤◌, ◌<◌, ◌≢◌, min, List, length, drop, slice_index}

-- how many nodes the n-th level has, counted from the root: none before the first, then 1, 2, 4 and so on
unfoldable pub row : ℕ → ℕ
row zero = 0
row (suc zero) = 1
row (suc (suc n)) = 2 * row (suc n)

-- the number at a node
abbrev pub node : List ℕ → ℕ → ℕ
node tree i = slice_index tree i

-- the node is the lesser of its children
abbrev pub IsLesser : List ℕ → ℕ → Type 0
IsLesser tree i = node tree i ≡ min (node tree (2 * i)) (node tree (2 * i + 1))

-- every node that is no leaf is right
abbrev pub IsHeap : List ℕ → ℕ → Type 0
IsHeap tree leaves = (i : ℕ) → 1 ≤ i → i < leaves → IsLesser tree i

-- every one but this node is right
abbrev pub IsHeapBut : List ℕ → ℕ → ℕ → Type 0
IsHeapBut tree leaves hole = (i : ℕ) → 1 ≤ i → i < leaves → i ≢ hole → IsLesser tree i

-- every one from this node on is right
abbrev pub IsHeapFrom : List ℕ → ℕ → ℕ → Type 0
IsHeapFrom tree leaves from = (i : ℕ) → 1 ≤ i → from ≤ i → i < leaves → IsLesser tree i

-- a tree of so many levels has so many leaves, and twice as many nodes
pub record IsSized (tree : List ℕ) (leaves levels : ℕ) : Type 0 where
  pub size : length tree ≡ 2 * leaves
  pub rows : leaves ≡ row levels
  pub few : leaves ≤ MOST_LEAVES

-- the leaves from this place on are not in use
abbrev pub IsSpareFrom : List ℕ → ℕ → Type 0
IsSpareFrom leaves from = (j : ℕ) → from ≤ j → j < length leaves → slice_index leaves j ≡ ABOVE_ALL

-- a tree with so many of its leaves in use
pub record IsTree (tree : List ℕ) (leaves levels len : ℕ) : Type 0 where
  pub sized : IsSized tree leaves levels
  pub heap : IsHeap tree leaves
  pub fits : len ≤ leaves
  pub spare : IsSpareFrom (drop leaves tree) len
