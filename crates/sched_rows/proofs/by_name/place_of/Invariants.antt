use Rattle.std.proofs.Common.{◌≡◌, ◌-◌, ◌≤◌, ◌<◌, true, false, length, slice_index}
use Rattle.sched_rows.specs.Filing.{comes_short}
use Rattle.sched_rows.proofs.by_name.place_of.Given as goal

-- the place lies between the two bounds
abbrev pub invariant-loop-low : goal.invariant-loop-low
invariant-loop-low l = record {
  order : l.low ≤ l.high;
  within : l.high ≤ length l.numbers;
  front : 1 ≤ l.low → comes_short l.rows l.group l.name l.edge (slice_index l.numbers (l.low - 1)) ≡ true;
  back : l.high < length l.numbers → comes_short l.rows l.group l.name l.edge (slice_index l.numbers l.high) ≡ false;
}

abbrev pub decreases-loop-low : goal.decreases-loop-low
decreases-loop-low l = l.high - l.low
