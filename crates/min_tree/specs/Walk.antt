-- A walk over the tree: how far it has come.
use Rattle.std.specs.Prelude.{◌≡◌, ℕ, zero, suc, ◌+◌, ◌-◌, ◌*◌, ◌/◌, ◌≤◌, ◌<◌, List}
use Rattle.min_tree.specs.declared.walk.Spot.{Spot}
use Rattle.min_tree.specs.Heap.{row, node}

-- the node so many levels above another
abbrev pub up : ℕ → ℕ → ℕ
up zero i = i
up (suc k) i = up k i / 2

-- a leaf's node lies to the left of node i, so many levels above the leaves, where its ancestor there does: those
-- before the first that is asked for do, and of the others all that do are above the bound
pub record Passed (tree : List ℕ) (leaves from bound level i : ℕ) : Type 0 where
  pub past : (j : ℕ) → j < from → up level j < i
  pub above : (j : ℕ) → from ≤ j → j < 2 * leaves → up level j < i → bound < node tree j

-- a node so many levels above the leaves
pub record IsNode (leaves levels at level : ℕ) : Type 0 where
  pub leaves_are : leaves ≡ row levels
  pub within : level < levels
  pub from : row (levels - level) ≤ at
  pub to : at < 2 * row (levels - level)

-- the walk stands at a node that is at most the bound
pub record IsClimbed (tree : List ℕ) (leaves levels from bound : ℕ) (spot : Spot) : Type 0 where
  pub at : IsNode leaves levels spot.node spot.level
  pub passed : Passed tree leaves from bound spot.level spot.node
  pub low : node tree spot.node ≤ bound

-- this leaf is the first, at or behind one, that is at most the bound
pub record IsFirstLeaf (tree : List ℕ) (leaves from bound place : ℕ) : Type 0 where
  pub behind : from ≤ place
  pub in_range : place < leaves
  pub low : node tree (leaves + place) ≤ bound
  pub before : (j : ℕ) → from ≤ j → j < place → bound < node tree (leaves + j)

-- no leaf from one on is at most the bound
abbrev pub NoLeaf : List ℕ → ℕ → ℕ → ℕ → Type 0
NoLeaf tree leaves from bound = (j : ℕ) → from ≤ j → j < leaves → bound < node tree (leaves + j)
