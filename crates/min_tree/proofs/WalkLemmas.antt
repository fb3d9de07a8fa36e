-- The steps of a walk over the tree.
use Rattle.std.proofs.Common.{◌≡◌, ℕ, zero, suc, ◌+◌, ◌-◌, ◌*◌, ◌/◌, ◌%◌, ◌≤◌, ◌<◌, List, ap, subst, arith, inl, inr}
use Rattle.std.proofs.lemmas.Bool.{cases_eq, cases_lt}
use Rattle.min_tree.specs.Heap.{row, node, IsHeap}
use Rattle.min_tree.specs.Walk.{up, IsNode, Passed}
use Rattle.min_tree.proofs.HeapLemmas.{row_none, row_one, row_next, row_some, covers, up_within}

-- the walk begins at a leaf
pub begins : (leaves levels from : ℕ) → leaves ≡ row levels → leaves ≤ from → from < 2 * leaves → IsNode leaves levels from 0
begins leaves levels from rows low high =
    let same : row (levels - 0) ≡ row levels = ap row (omega arith) in
    record {
      leaves_are = rows;
      within = elim (cases_eq levels 0) [
        | inl none ↦ let e : row levels ≡ row 0 = ap row none in absurd (omega (arith, rows, e, row_none, low, high))
        | inr some ↦ omega arith
      ];
      from = omega (arith, same, rows, low);
      to = omega (arith, same, rows, high);
    }

pub starts : (tree : List ℕ) (leaves from bound : ℕ) → Passed tree leaves from bound 0 from
starts tree leaves from bound = record { past = λ j lt. lt; above = λ j le within lt. absurd (omega (arith, le, lt)) }

-- a node is one of the tree
pub in_tree : (leaves levels at level : ℕ) → IsNode leaves levels at level → at < 2 * leaves
in_tree leaves levels at level n = omega (arith, n.to, n.leaves_are, lower level)
  where
    lower : (k : ℕ) → row (levels - k) ≤ row levels
    lower zero = let same : row (levels - 0) ≡ row levels = ap row (omega arith) in omega (arith, same)
    lower (suc k) = elim (cases_lt (suc k) levels) [
      | inl lt ↦
          let next : row (levels - suc k + 1) ≡ 2 * row (levels - suc k) = row_next (levels - suc k) (omega arith) in
          let same : row (levels - k) ≡ row (levels - suc k + 1) = ap row (omega arith) in
          omega (arith, next, same, lower k)
      | inr le ↦ let none : row (levels - suc k) ≡ row 0 = ap row (omega arith) in omega (arith, none, row_none)
    ]

-- a node that is above the bound is passed
pub right : (tree : List ℕ) (leaves from bound level at : ℕ) → IsHeap tree leaves → 1 ≤ at → Passed tree leaves from bound level at → bound < node tree at
    → Passed tree leaves from bound level (at + 1)
right tree leaves from bound level at heap some passed high = record {
  past = λ j lt. omega (arith, passed.past j lt);
  above = λ j le within lt. elim (cases_eq (up level j) at) [
    | inl here ↦
        let covered : node tree (up level j) ≤ node tree j = covers tree leaves level j heap within (omega (arith, here, some)) in
        let same : node tree (up level j) ≡ node tree at = ap (node tree) here in
        omega (arith, covered, same, high)
    | inr apart ↦ passed.above j le within (omega (arith, apart, lt))
  ];
}

-- up to the parent, from a left child
pub pass_up : (tree : List ℕ) (leaves from bound level at : ℕ) → at % 2 ≡ 0 → Passed tree leaves from bound level at
    → Passed tree leaves from bound (level + 1) (at / 2)
pass_up tree leaves from bound level at even passed = subst (λ (k : ℕ). Passed tree leaves from bound k (at / 2)) {x = suc level} (omega arith) record {
  past = λ j lt. omega (arith, passed.past j lt, even);
  above = λ j le within lt. passed.above j le within (omega (arith, lt, even));
}

-- down to the left child
pub pass_down : (tree : List ℕ) (leaves from bound level at : ℕ) → Passed tree leaves from bound (suc level) at
    → Passed tree leaves from bound level (at * 2)
pass_down tree leaves from bound level at passed = record {
  past = λ j lt. omega (arith, passed.past j lt);
  above = λ j le within lt. passed.above j le within (omega (arith, lt));
}

-- the level above
pub node_up : (leaves levels at level : ℕ) → IsNode leaves levels at level → at % 2 ≡ 0 → IsNode leaves levels (at / 2) (level + 1)
node_up leaves levels at level n even =
    elim (cases_eq (level + 1) levels) [
      | inl top ↦ absurd (root top)
      | inr below ↦
          let next : row (levels - (level + 1) + 1) ≡ 2 * row (levels - (level + 1)) = row_next (levels - (level + 1)) (omega (arith, n.within, below)) in
          let same : row (levels - level) ≡ row (levels - (level + 1) + 1) = ap row (omega (arith, n.within)) in
          record {
            leaves_are = n.leaves_are;
            within = omega (arith, n.within, below);
            from = omega (arith, n.from, next, same, even);
            to = omega (arith, n.to, next, same, even);
          }
    ]
  where
    root : level + 1 ≡ levels → ⊥
    root top = let one : row (levels - level) ≡ row 1 = ap row (omega (arith, top)) in omega (arith, n.from, n.to, one, row_one, even)

-- the next node of the level
pub node_right : (leaves levels at level : ℕ) → IsNode leaves levels at level → at + 1 < 2 * row (levels - level) → IsNode leaves levels (at + 1) level
node_right leaves levels at level n more = record { leaves_are = n.leaves_are; within = n.within; from = omega (arith, n.from); to = more }

-- a node of the tree is not the place 0
pub some_node : (leaves levels at level : ℕ) → IsNode leaves levels at level → 1 ≤ at
some_node leaves levels at level n = omega (arith, row_some (levels - level) (omega (arith, n.within)), n.from)

-- the two nodes below one
pub node_down : (leaves levels at level : ℕ) → 0 < level → IsNode leaves levels at level → IsNode leaves levels (at * 2) (level - 1)
node_down leaves levels at level lt n =
    let next : row (levels - level + 1) ≡ 2 * row (levels - level) = row_next (levels - level) (omega (arith, n.within)) in
    let same : row (levels - (level - 1)) ≡ row (levels - level + 1) = ap row (omega (arith, n.within, lt)) in
    record { leaves_are = n.leaves_are; within = omega (arith, n.within); from = omega (arith, n.from, next, same); to = omega (arith, n.to, next, same) }

pub node_down_right : (leaves levels at level : ℕ) → 0 < level → IsNode leaves levels at level → IsNode leaves levels (at * 2 + 1) (level - 1)
node_down_right leaves levels at level lt n =
    let next : row (levels - level + 1) ≡ 2 * row (levels - level) = row_next (levels - level) (omega (arith, n.within)) in
    let same : row (levels - (level - 1)) ≡ row (levels - level + 1) = ap row (omega (arith, n.within, lt)) in
    record { leaves_are = n.leaves_are; within = omega (arith, n.within); from = omega (arith, n.from, next, same); to = omega (arith, n.to, next, same) }

-- a node above the leaves is the lesser of those below it
pub inner : (leaves levels at level : ℕ) → 0 < level → IsNode leaves levels at level → at < leaves
inner leaves levels at level lt n =
    let down = in_tree leaves levels (at * 2) (level - 1) (node_down leaves levels at level lt n) in
    omega (arith, down)

-- all leaves are passed behind the last node of a level
pub all_passed : (tree : List ℕ) (leaves levels from bound level at : ℕ) → leaves ≡ row levels → level < levels → at ≡ 2 * row (levels - level)
    → Passed tree leaves from bound level at → (j : ℕ) → from ≤ j → j < 2 * leaves → bound < node tree j
all_passed tree leaves levels from bound level at rows lt end passed j le within =
    passed.above j le within (omega (arith, end, up_within levels level j lt (omega (arith, within, rows))))
