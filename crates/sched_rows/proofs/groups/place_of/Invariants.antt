use Rattle.std.proofs.Common.{◌≡◌, ◌-◌, ◌≤◌, ◌<◌, true, false, length, slice_index}
use Rattle.sched_rows.specs.GroupIndex.{group_short}
use Rattle.sched_rows.proofs.groups.place_of.Given as goal

-- the place lies between the two bounds
abbrev pub invariant-loop-low : goal.invariant-loop-low
invariant-loop-low l = record {
  order : l.low ≤ l.high;
  within : l.high ≤ length l.places;
  front : 1 ≤ l.low → group_short l.groups l.name l.edge (slice_index l.places (l.low - 1)) ≡ true;
  back : l.high < length l.places → group_short l.groups l.name l.edge (slice_index l.places l.high) ≡ false;
}

abbrev pub decreases-loop-low : goal.decreases-loop-low
decreases-loop-low l = l.high - l.low
