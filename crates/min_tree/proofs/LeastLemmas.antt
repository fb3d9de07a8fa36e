-- What the root of a tree of minima is, and what becomes of unused leaves.
use Rattle.std.proofs.Common.{◌≡◌, ℕ, zero, suc, ◌+◌, ◌-◌, ◌*◌, ◌/◌, ◌≤◌, ◌<◌, List, [], ◌∷◌, length, take, drop, get_or, slice_index, length-take, length-drop, sym, ap, ◌∙◌, arith, inl, inr}
use Rattle.std.proofs.lemmas.Bool.{cases_eq, cases_lt}
use Rattle.std.proofs.lemmas.List.{get_or-take, get_or-drop}
use Rattle.min_tree.specs.declared.nodes.TheConstants.{ABOVE_ALL}
use Rattle.min_tree.specs.Heap.{node, IsHeap, IsTree, IsSpareFrom}
use Rattle.min_tree.specs.Search.{least}

-- the leaves that were not in use are not in use in a larger tree
pub spare_grown : (old new : List ℕ) (leaves len : ℕ) → take leaves new ≡ old → length old ≡ leaves → IsSpareFrom old len → IsSpareFrom new leaves → IsSpareFrom new len
spare_grown old new leaves len same long was more j le within = elim (cases_lt j leaves) [
  | inl before ↦
      sym (get_or-take leaves new j 0 before) ∙ ap (λ (l : List ℕ). get_or l j 0) same ∙ was j le (omega (arith, before, long))
  | inr behind ↦ more j behind within
]

-- the root is at most each node
under_root : (tree : List ℕ) (leaves n i : ℕ) → IsHeap tree leaves → i ≤ n → 1 ≤ i → i < 2 * leaves → node tree 1 ≤ node tree i
under_root tree leaves zero i heap le some lt = absurd (omega (arith, le, some))
under_root tree leaves (suc n) i heap le some lt = elim (cases_eq i 1) [
  | inl first ↦ let same : node tree i ≡ node tree 1 = ap (node tree) first in omega (arith, same)
  | inr later ↦
      let lesser = heap (i / 2) (omega (arith, some, later)) (omega (arith, lt)) in
      let above = under_root tree leaves n (i / 2) heap (omega (arith, le, some, later)) (omega (arith, some, later)) (omega (arith, lt, some)) in
      elim (cases_eq i (2 * (i / 2))) [
        | inl even ↦ let same : node tree i ≡ node tree (2 * (i / 2)) = ap (node tree) even in omega (arith, lesser, same, above)
        | inr odd ↦
            let same : node tree i ≡ node tree (2 * (i / 2) + 1) = ap (node tree) (let e : i ≡ 2 * (i / 2) + 1 = omega (arith, odd) in e) in
            omega (arith, lesser, same, above)
      ]
]

-- no node is below what no leaf is below
over_least : (tree : List ℕ) (leaves m n i : ℕ) → IsHeap tree leaves → ((j : ℕ) → leaves ≤ j → j < 2 * leaves → m ≤ node tree j)
    → 2 * leaves ≤ i + n → 1 ≤ i → i < 2 * leaves → m ≤ node tree i
over_least tree leaves m zero i heap each far some lt = absurd (omega (arith, far, lt))
over_least tree leaves m (suc n) i heap each far some lt = elim (cases_lt i leaves) [
  | inl inside ↦
      let lesser = heap i some inside in
      let left = over_least tree leaves m n (2 * i) heap each (omega (arith, far, some)) (omega (arith, some)) (omega (arith, inside)) in
      let right = over_least tree leaves m n (2 * i + 1) heap each (omega (arith, far, some)) (omega (arith, some)) (omega (arith, inside)) in
      omega (arith, lesser, left, right)
  | inr leaf ↦ each i leaf lt
]

least_max : (xs : List ℕ) → least xs ≤ ABOVE_ALL
least_max [] = omega arith
least_max (x ∷ xs) = omega (arith, least_max xs)

pub least_low : (xs : List ℕ) (j : ℕ) → j < length xs → least xs ≤ slice_index xs j
least_low [] j lt = absurd (omega arith)
least_low (x ∷ xs) zero lt = omega arith
least_low (x ∷ xs) (suc j) lt = omega (arith, least_low xs j (omega arith))

pub least_high : (xs : List ℕ) (m : ℕ) → m ≤ ABOVE_ALL → ((j : ℕ) → j < length xs → m ≤ slice_index xs j) → m ≤ least xs
least_high [] m le each = le
least_high (x ∷ xs) m le each = omega (arith, each 0 (omega arith), least_high xs m le (λ j lt. each (suc j) (omega arith)))

-- the root is the least of the leaves in use
pub root_is : (tree : List ℕ) (leaves levels len : ℕ) → IsTree tree leaves levels len → 0 < leaves → node tree 1 ≤ ABOVE_ALL
    → node tree 1 ≡ least (take len (drop leaves tree))
root_is tree leaves levels len is some small =
    let values = take len (drop leaves tree) in
    let long : length (drop leaves tree) ≡ leaves = let l = length-drop leaves tree in omega (arith, l, is.sized.size) in
    let few : length values ≡ len = let l = length-take len (drop leaves tree) in omega (arith, l, long, is.fits) in
    let leaf : (j : ℕ) → slice_index (drop leaves tree) j ≡ node tree (leaves + j) = λ j. get_or-drop leaves tree j 0 in
    let value : (j : ℕ) → j < len → slice_index values j ≡ node tree (leaves + j) = λ j lt. get_or-take len (drop leaves tree) j 0 lt ∙ leaf j in
    let low : node tree 1 ≤ least values =
    least_high values (node tree 1) small (λ j lt.
    let v = value j (omega (arith, lt, few)) in
    let u = under_root tree leaves (leaves + j) (leaves + j) is.heap (omega arith) (omega (arith, some)) (omega (arith, lt, few, is.fits)) in omega (arith, v, u)) in
    let each : (j : ℕ) → leaves ≤ j → j < 2 * leaves → least values ≤ node tree j = λ j le lt.
    let here : node tree (leaves + (j - leaves)) ≡ node tree j = ap (node tree) (omega (arith, le)) in
    elim (cases_lt (j - leaves) len) [
      | inl used ↦ let v = value (j - leaves) used in let l = least_low values (j - leaves) (omega (arith, used, few)) in omega (arith, here, v, l)
      | inr unused ↦
          let v = leaf (j - leaves) in
          let s = is.spare (j - leaves) unused (omega (arith, lt, le, long)) in
          let m = least_max values in omega (arith, here, v, s, m)
    ] in
    let high : least values ≤ node tree 1 = over_least tree leaves (least values) (2 * leaves) 1 is.heap each (omega arith) (omega arith) (omega (arith, some)) in
    omega (arith, low, high)
