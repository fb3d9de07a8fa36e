use Rattle.std.proofs.Common.{◌≡◌, ◌+◌, ◌-◌, ◌*◌, ap, arith, sym, ◌∙◌}
use Rattle.min_tree.specs.Heap.{row}
use Rattle.min_tree.proofs.HeapLemmas.{row_next}
use Rattle.min_tree.proofs.WalkLemmas.{begins, starts, in_tree, right, pass_up, node_up, node_right, some_node, all_passed}
use Rattle.min_tree.proofs.walk.climb.Goals as goal

pub loop-at-init : goal.loop-at-init
loop-at-init c =
    let same : row (c.args.levels - 0) ≡ row c.args.levels = ap row (omega arith) in
    record {
      node = begins c.args.leaves c.args.levels c.args.from c.requires.sized.rows c.requires.low c.requires.high;
      first_is = c.requires.sized.rows ∙ sym same;
      passed = starts c.args.tree.now c.args.leaves c.args.from c.args.bound;
    }

pub offset_bounds-tree-at : goal.offset_bounds-tree-at
offset_bounds-tree-at c =
    omega (arith, in_tree c.args.leaves c.args.levels c.loop-at.at c.loop-at.level c.loop-at.invariant.node, c.requires.sized.few)

pub bounds-tree-at : goal.bounds-tree-at
bounds-tree-at c =
    omega (arith, in_tree c.args.leaves c.args.levels c.loop-at.at c.loop-at.level c.loop-at.invariant.node, c.requires.sized.size)

pub returns-then-at-first-clause-none : goal.returns-then-at-first-clause-none
returns-then-at-first-clause-none c =
    let n = c.loop-at.invariant.node in
    let some = some_node c.args.leaves c.args.levels c.loop-at.at c.loop-at.level n in
    all_passed c.args.tree.now c.args.leaves c.args.levels c.args.from c.args.bound c.loop-at.level (c.loop-at.at + 1) c.requires.sized.rows n.within
    (omega (arith, c.if-at-first.true, c.loop-at.invariant.first_is))
    (right c.args.tree.now c.args.leaves c.args.from c.args.bound c.loop-at.level c.loop-at.at c.requires.heap some c.loop-at.invariant.passed c.loop-at-test.true)

pub loop-at-preserved-then-at-eq0 : goal.loop-at-preserved-then-at-eq0
loop-at-preserved-then-at-eq0 c =
    let n = c.loop-at.invariant.node in
    let some = some_node c.args.leaves c.args.levels c.loop-at.at c.loop-at.level n in
    let next = node_right c.args.leaves c.args.levels c.loop-at.at c.loop-at.level n (omega (arith, c.if-at-first.false, c.loop-at.invariant.first_is, n.to)) in
    let above = node_up c.args.leaves c.args.levels (c.loop-at.at + 1) c.loop-at.level next c.if-at-eq0.true in
    let doubled : row (c.args.levels - (c.loop-at.level + 1) + 1) ≡ 2 * row (c.args.levels - (c.loop-at.level + 1)) =
    row_next (c.args.levels - (c.loop-at.level + 1)) (omega (arith, above.within)) in
    let same : row (c.args.levels - c.loop-at.level) ≡ row (c.args.levels - (c.loop-at.level + 1) + 1) = ap row (omega (arith, above.within)) in
    record {
      node = above;
      first_is = omega (arith, doubled, same, c.loop-at.invariant.first_is);
      passed = pass_up c.args.tree.now c.args.leaves c.args.from c.args.bound c.loop-at.level (c.loop-at.at + 1) c.if-at-eq0.true
          (right c.args.tree.now c.args.leaves c.args.from c.args.bound c.loop-at.level c.loop-at.at c.requires.heap some c.loop-at.invariant.passed c.loop-at-test.true);
    }

pub loop-at-preserved : goal.loop-at-preserved
loop-at-preserved c =
    let n = c.loop-at.invariant.node in
    let some = some_node c.args.leaves c.args.levels c.loop-at.at c.loop-at.level n in
    record {
      node = node_right c.args.leaves c.args.levels c.loop-at.at c.loop-at.level n (omega (arith, c.if-at-first.false, c.loop-at.invariant.first_is, n.to));
      first_is = c.loop-at.invariant.first_is;
      passed = right c.args.tree.now c.args.leaves c.args.from c.args.bound c.loop-at.level c.loop-at.at c.requires.heap some c.loop-at.invariant.passed c.loop-at-test.true;
    }
