use Rattle.std.proofs.Common.{◌-◌}
use Rattle.sorted_blocks.proofs.Places.{IsAround}
use Rattle.sorted_blocks.proofs.place.block_for.Given as goal

abbrev pub invariant-loop-high : goal.invariant-loop-high
invariant-loop-high g l = IsAround l.blocks l.token l.low l.high

abbrev pub decreases-loop-high : goal.decreases-loop-high
decreases-loop-high g l = l.high - l.low
