use Rattle.std.proofs.Common.{◌≡◌, ℕ, ◌≤◌, ◌-◌, List, length}
use Rattle.entry_lines.specs.Rows.{Row}
use Rattle.ledger_rows.proofs.Undecided.{open_upto}
use Rattle.ledger_rows.proofs.lane.undecided_in.Given as goal

-- those so far are counted
pub record Counting (rows : List Row) (from count : ℕ) : Type 0 where
  pub value : count ≡ open_upto rows from
  pub few : count ≤ from
  pub within : from ≤ length rows

abbrev pub invariant-loop-place : goal.invariant-loop-place
invariant-loop-place l = Counting l.rows.rows l.from l.count

abbrev pub decreases-loop-place : goal.decreases-loop-place
decreases-loop-place l = length l.rows.rows - l.from
