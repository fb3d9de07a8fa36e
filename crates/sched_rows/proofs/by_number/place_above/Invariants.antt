use Rattle.std.proofs.Common.{◌≡◌, ◌-◌, ◌≤◌, ◌<◌, true, false, length, slice_index}
use Rattle.std.specs.Prelude.{nat_le}
use Rattle.sched_rows.proofs.by_number.place_above.Given as goal

-- the place lies between the two bounds
abbrev pub invariant-loop-low : goal.invariant-loop-low
invariant-loop-low l = record {
  order : l.low ≤ l.high;
  within : l.high ≤ length l.numbers;
  front : 1 ≤ l.low → nat_le (slice_index l.numbers (l.low - 1)) l.after ≡ true;
  back : l.high < length l.numbers → nat_le (slice_index l.numbers l.high) l.after ≡ false;
}

abbrev pub decreases-loop-low : goal.decreases-loop-low
decreases-loop-low l = l.high - l.low
