use Rattle.std.proofs.Common.{◌+◌, ◌-◌}
use Rattle.zone_occ.specs.FirstInstants.{IsInstant}
use Rattle.zone_occ.proofs.Batches.{AreBefore}
use Rattle.zone_occ.proofs.batch.first_moments.Given as goal

abbrev pub invariant-loop-moment : goal.invariant-loop-moment
invariant-loop-moment l = AreBefore (IsInstant l.expr l.zone l.anchor) l.start l.from l.to l.max l.moments.items

abbrev pub decreases-loop-moment : goal.decreases-loop-moment
decreases-loop-moment l = l.to + 1 - l.start
