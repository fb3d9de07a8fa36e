use Rattle.std.proofs.Common.{◌≡◌, ℕ, ◌≤◌, ◌<◌, List, length, drop, length-drop, ap, arith, sym}
use Rattle.min_tree.proofs.HeapLemmas.{row_none}
use Rattle.min_tree.proofs.tree.MinTree.new.Goals as goal

pub invariant_of-result : goal.invariant_of-result
invariant_of-result c =
    let none : length c.new.result.items ≡ 0 = ap {A = List ℕ} length c.new.ensures.items in
    record {
      sized = record { size = none; rows = sym row_none; few = omega arith };
      heap = λ (i : ℕ) (some : 1 ≤ i) (lt : i < 0). absurd (omega (arith, some, lt));
      fits = omega arith;
      spare = λ (j : ℕ) (le : 0 ≤ j) (lt : j < length (drop 0 c.new.result.items)). absurd (let l = length-drop 0 c.new.result.items in omega (arith, lt, l, none));
    }
