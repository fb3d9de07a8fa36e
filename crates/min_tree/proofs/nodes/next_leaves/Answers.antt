use Rattle.std.proofs.Common.{◌≡◌, ◌+◌, ap, arith, sym, ◌∙◌}
use Rattle.min_tree.specs.Heap.{row}
use Rattle.min_tree.proofs.HeapLemmas.{row_none, row_one, row_next, row_some}
use Rattle.min_tree.proofs.nodes.next_leaves.Goals as goal

pub returns-then-levels-eq0-clause-rows : goal.returns-then-levels-eq0-clause-rows
returns-then-levels-eq0-clause-rows c =
    let same : row (c.args.levels + 1) ≡ row 1 = ap row (omega (arith, c.if-levels-eq0.true)) in sym row_one ∙ sym same

pub returns-then-levels-eq0-clause-more : goal.returns-then-levels-eq0-clause-more
returns-then-levels-eq0-clause-more c =
    let none : row c.args.levels ≡ row 0 = ap row c.if-levels-eq0.true in omega (arith, c.requires.rows, none, row_none)

pub returns-else-levels-eq0-clause-rows : goal.returns-else-levels-eq0-clause-rows
returns-else-levels-eq0-clause-rows c =
    let next = row_next c.args.levels (omega (arith, c.if-levels-eq0.false)) in omega (arith, c.requires.rows, next)

pub returns-else-levels-eq0-clause-more : goal.returns-else-levels-eq0-clause-more
returns-else-levels-eq0-clause-more c =
    let some = row_some c.args.levels (omega (arith, c.if-levels-eq0.false)) in omega (arith, c.requires.rows, some)
