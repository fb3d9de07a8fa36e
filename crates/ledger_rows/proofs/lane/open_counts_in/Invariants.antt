use Rattle.std.proofs.Common.{◌≡◌, ℕ, ◌≤◌, ◌-◌, List, length}
use Rattle.entry_lines.specs.Rows.{Row}
use Rattle.ledger_rows.specs.declared.open_entries.OpenCounts.{OpenCounts}
use Rattle.ledger_rows.proofs.OpenSums.{counts_upto}
use Rattle.ledger_rows.proofs.lane.open_counts_in.Given as goal

-- those so far are counted
pub record Counting (rows : List Row) (now from : ℕ) (counts : OpenCounts) : Type 0 where
  pub value : counts ≡ counts_upto now rows from
  pub within : from ≤ length rows

abbrev pub invariant-loop-place : goal.invariant-loop-place
invariant-loop-place l = Counting l.rows.rows l.now.0 l.from l.counts

abbrev pub decreases-loop-place : goal.decreases-loop-place
decreases-loop-place l = length l.rows.rows - l.from
