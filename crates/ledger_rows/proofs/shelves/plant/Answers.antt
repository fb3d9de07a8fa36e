use Rattle.std.proofs.Common.{List, sym, subst}
use Rattle.min_tree.specs.Numbers.{Numbers}
use Rattle.ledger_rows.specs.Shelves.{AreSameShelves}
use Rattle.ledger_rows.proofs.ShelfLemmas.{same_pushed}
use Rattle.ledger_rows.proofs.shelves.plant.Goals as goal

pub loop-alloc-preserved : goal.loop-alloc-preserved
loop-alloc-preserved c =
    subst (λ (l : List Numbers). AreSameShelves c.args.trees.now.items l) (sym c.in_ok-push.ensures.items)
    (same_pushed c.args.trees.now.items c.loop-alloc.trees.items c.new.result c.loop-alloc.invariant c.new.ensures.values)
