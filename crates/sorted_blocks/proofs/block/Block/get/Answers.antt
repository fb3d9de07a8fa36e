use Rattle.sorted_blocks.proofs.Order.{found_at, none_in_gap}
use Rattle.sorted_blocks.proofs.block.Block.get.Goals as goal

pub returns-in-Ok-clause-some : goal.returns-in-Ok-clause-some
returns-in-Ok-clause-some g c =
    rw (← c.self.view_is) (found_at c.self.inside.pairs.items c.args.token.now c.in-Ok.at c.index.result.now (rw c.self.view_is c.requires) (rw (← c.deref.ensures.value) c.in-Ok.ensures.found) c.index.ensures)

pub returns-in-Err-clause-none : goal.returns-in-Err-clause-none
returns-in-Err-clause-none g c =
    rw (← c.self.view_is, ← c.deref.ensures.value) (none_in_gap _ _ _ c.in-Err.ensures.absent)
