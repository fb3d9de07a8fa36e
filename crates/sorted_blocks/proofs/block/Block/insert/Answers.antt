use Rattle.sorted_blocks.proofs.Order.{found_there}
use Rattle.sorted_blocks.proofs.block.Block.insert.Goals as goal

-- a token that is new stands nowhere
pub unreachable-requires : goal.unreachable-requires
unreachable-requires g c =
    found_there _ _ _ c.in-Ok.ensures.found (rw (c.deref.ensures.value, c.self.view_is) c.requires.fresh)
