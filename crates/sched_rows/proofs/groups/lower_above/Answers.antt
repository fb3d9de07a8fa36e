use Rattle.std.proofs.Common.{slice_index, arith}
use Rattle.std.proofs.lemmas.List.{get_or_default}
use Rattle.std.proofs.lemmas.List.Edits.{map_over_more}
use Rattle.sched_rows.specs.GroupIndex.{lowered}
use Rattle.sched_rows.proofs.groups.lower_above.Goals as goal

-- one more place is lowered
pub loop-i-preserved : goal.loop-i-preserved
loop-i-preserved c =
    let x = slice_index c.loop-i.places c.loop-i.i in
    rw c.lowered.ensures (map_over_more (lowered c.args.out) c.args.places.now c.loop-i.places c.loop-i.i x (omega arith) c.loop-i.invariant
    (get_or_default c.loop-i.places c.loop-i.i 0 x (omega arith)))
