use Rattle.std.proofs.Common.{sym, ◌∙◌, arith}
use Rattle.sorted_blocks.proofs.Order.{narrow_up, narrow_down, stands_at}
use Rattle.sorted_blocks.proofs.search.place_of.Goals as goal

pub loop-low-preserved-in-Less : goal.loop-low-preserved-in-Less
loop-low-preserved-in-Less g c =
    narrow_up _ _ _ _ _ c.index-pairs-middle.result c.requires c.loop-low.invariant (omega arith) (sym c.order_of.ensures ∙ c.in-Less.is)

pub returns-in-Equal-clause-found : goal.returns-in-Equal-clause-found
returns-in-Equal-clause-found g c =
    stands_at _ _ _ c.index-pairs-middle.result (omega (arith, c.loop-low.invariant.within)) (sym c.order_of.ensures ∙ c.in-Equal.is)

pub loop-low-preserved : goal.loop-low-preserved
loop-low-preserved g c =
    narrow_down _ _ _ _ _ c.index-pairs-middle.result c.requires c.loop-low.invariant (omega arith) (omega arith) (sym c.order_of.ensures ∙ c.in-Greater.is)
