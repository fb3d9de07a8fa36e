use Rattle.std.proofs.Common.{◌≡◌, ◌++◌, map, take, drop}
use Rattle.sched_rows.specs.GroupIndex.{lowered}
use Rattle.sched_rows.proofs.groups.lower_above.Given as goal

-- the places before the index are lowered
abbrev pub invariant-loop-i : goal.invariant-loop-i
invariant-loop-i l = l.places ≡ map (lowered l.out) (take l.i l.initial.places) ++ drop l.i l.initial.places
