use Rattle.std.proofs.Common.{◌-◌}
use Rattle.sorted_blocks.proofs.Order.{Narrowed}
use Rattle.sorted_blocks.proofs.search.place_of.Given as goal

abbrev pub invariant-loop-low : goal.invariant-loop-low
invariant-loop-low g l = Narrowed l.pairs l.token l.low l.high

abbrev pub decreases-loop-low : goal.decreases-loop-low
decreases-loop-low g l = l.high - l.low
