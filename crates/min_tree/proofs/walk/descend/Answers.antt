use Rattle.std.proofs.Common.{◌≡◌, ℕ, suc, ◌+◌, ◌-◌, ◌*◌, ap, subst, arith}
use Rattle.min_tree.specs.Heap.{node}
use Rattle.min_tree.specs.Walk.{Passed}
use Rattle.min_tree.proofs.WalkLemmas.{in_tree, right, pass_down, node_down, node_down_right, some_node, inner}
use Rattle.min_tree.proofs.walk.descend.Goals as goal

pub overflow_mul-at : goal.overflow_mul-at
overflow_mul-at c =
    omega (arith, in_tree c.args.leaves c.args.levels c.loop-level.at c.loop-level.level c.loop-level.invariant.is_node, c.requires.sized.few)

pub offset_bounds-tree-at : goal.offset_bounds-tree-at
offset_bounds-tree-at c =
    omega (arith, in_tree c.args.leaves c.args.levels c.loop-level.at c.loop-level.level c.loop-level.invariant.is_node, c.requires.sized.few)

pub bounds-tree-at : goal.bounds-tree-at
bounds-tree-at c =
    omega (arith, inner c.args.leaves c.args.levels c.loop-level.at c.loop-level.level c.loop-level-test.true c.loop-level.invariant.is_node, c.requires.sized.size)

pub loop-level-preserved-then-tree-at : goal.loop-level-preserved-then-tree-at
loop-level-preserved-then-tree-at c =
    let n = c.loop-level.invariant.is_node in
    let some = some_node c.args.leaves c.args.levels c.loop-level.at c.loop-level.level n in
    let within = inner c.args.leaves c.args.levels c.loop-level.at c.loop-level.level c.loop-level-test.true n in
    let above : Passed c.args.tree.now c.args.leaves c.args.from c.args.bound (suc (c.loop-level.level - 1)) c.loop-level.at =
    subst (λ (k : ℕ). Passed c.args.tree.now c.args.leaves c.args.from c.args.bound k c.loop-level.at) {x = c.loop-level.level} (omega (arith, c.loop-level-test.true)) c.loop-level.invariant.passed in
    let lesser = c.requires.heap c.loop-level.at some within in
    let turned : c.loop-level.at * 2 ≡ 2 * c.loop-level.at = omega arith in
    let left : node c.args.tree.now (c.loop-level.at * 2) ≡ node c.args.tree.now (2 * c.loop-level.at) = ap (node c.args.tree.now) turned in
    let other : node c.args.tree.now (c.loop-level.at * 2 + 1) ≡ node c.args.tree.now (2 * c.loop-level.at + 1) =
    ap (λ (k : ℕ). node c.args.tree.now (k + 1)) turned in
    record {
      is_node = node_down_right c.args.leaves c.args.levels c.loop-level.at c.loop-level.level c.loop-level-test.true n;
      passed = right c.args.tree.now c.args.leaves c.args.from c.args.bound (c.loop-level.level - 1) (c.loop-level.at * 2) c.requires.heap (omega (arith, some))
          (pass_down c.args.tree.now c.args.leaves c.args.from c.args.bound (c.loop-level.level - 1) c.loop-level.at above) c.if-tree-at.true;
      low = omega (arith, lesser, left, other, c.if-tree-at.true, c.loop-level.invariant.low);
    }

pub loop-level-preserved : goal.loop-level-preserved
loop-level-preserved c =
    let n = c.loop-level.invariant.is_node in
    let above : Passed c.args.tree.now c.args.leaves c.args.from c.args.bound (suc (c.loop-level.level - 1)) c.loop-level.at =
    subst (λ (k : ℕ). Passed c.args.tree.now c.args.leaves c.args.from c.args.bound k c.loop-level.at) {x = c.loop-level.level} (omega (arith, c.loop-level-test.true)) c.loop-level.invariant.passed in
    record {
      is_node = node_down c.args.leaves c.args.levels c.loop-level.at c.loop-level.level c.loop-level-test.true n;
      passed = pass_down c.args.tree.now c.args.leaves c.args.from c.args.bound (c.loop-level.level - 1) c.loop-level.at above;
      low = c.if-tree-at.false;
    }
