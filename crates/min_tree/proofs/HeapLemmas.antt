-- Facts of trees of minima: how long their levels are, and that no node is below one of its ancestors.
use Rattle.std.proofs.Common.{◌≡◌, ℕ, zero, suc, ◌+◌, ◌-◌, ◌*◌, ◌/◌, ◌≤◌, ◌<◌, List, refl, ap, add-one, arith, inl, inr}
use Rattle.std.proofs.lemmas.Bool.{cases_eq}
use Rattle.min_tree.specs.Heap.{row, node, IsHeap}
use Rattle.min_tree.specs.Walk.{up}

pub row_none : row 0 ≡ 0
unfolding row
row_none = refl

pub row_one : row 1 ≡ 1
unfolding row
row_one = refl

-- each level below the first has twice as many nodes as the one above it
pub row_next : (n : ℕ) → 0 < n → row (n + 1) ≡ 2 * row n
unfolding row
row_next zero lt = absurd (omega arith)
row_next (suc n) lt = rw add-one refl

pub row_some : (n : ℕ) → 0 < n → 1 ≤ row n
unfolding row
row_some zero lt = absurd (omega arith)
row_some (suc zero) lt = omega arith
row_some (suc (suc n)) lt = omega (arith, row_some (suc n) (omega arith))

-- there are no more levels than leaves
pub levels_le : (n : ℕ) → n ≤ row n
unfolding row
levels_le zero = omega arith
levels_le (suc zero) = omega arith
levels_le (suc (suc n)) = omega (arith, levels_le (suc n))

-- an ancestor has no greater number
pub up_le : (k i : ℕ) → up k i ≤ i
up_le zero i = omega arith
up_le (suc k) i = omega (arith, up_le k i)

-- a node's ancestor is at most the node
pub covers : (tree : List ℕ) (leaves k j : ℕ) → IsHeap tree leaves → j < 2 * leaves → 1 ≤ up k j → node tree (up k j) ≤ node tree j
covers tree leaves zero j heap lt some = omega arith
covers tree leaves (suc k) j heap lt some =
    let m = up k j in
    let le : m ≤ j = up_le k j in
    let lesser = heap (m / 2) some (omega arith) in
    let below : node tree m ≤ node tree j = covers tree leaves k j heap lt (omega arith) in
    elim (cases_eq m (2 * (m / 2))) [
      | inl even ↦ let same : node tree m ≡ node tree (2 * (m / 2)) = ap (node tree) even in omega (arith, lesser, same, below)
      | inr odd ↦
          let same : node tree m ≡ node tree (2 * (m / 2) + 1) = ap (node tree) (let e : m ≡ 2 * (m / 2) + 1 = omega arith in e) in
          omega (arith, lesser, same, below)
    ]

-- the ancestors of the leaves lie in the levels above
pub up_within : (levels k j : ℕ) → k < levels → j < 2 * row levels → up k j < 2 * row (levels - k)
up_within levels zero j lt within =
    let same : row (levels - 0) ≡ row levels = ap row (omega arith) in
    omega (arith, within, same)
up_within levels (suc k) j lt within =
    let below : up k j < 2 * row (levels - k) = up_within levels k j (omega arith) within in
    let next : row (levels - suc k + 1) ≡ 2 * row (levels - suc k) = row_next (levels - suc k) (omega arith) in
    let same : row (levels - k) ≡ row (levels - suc k + 1) = ap row (omega arith) in
    omega (arith, below, next, same)
