use Rattle.std.proofs.Common.{ℕ, ◌≤◌, ◌<◌, ◌-◌, List, length, slice_index}
use Rattle.entry_lines.specs.Rows.{Row}
use Rattle.ledger_rows.specs.Rows.{instants_in}
use Rattle.ledger_rows.proofs.lane.first_not_before.Given as goal

-- what lies below is before the instant, and what lies above is not
pub record Narrowed (rows : List Row) (instant low high : ℕ) : Type 0 where
  pub order : low ≤ high
  pub within : high ≤ length rows
  pub below : (j : ℕ) → j < low → slice_index (instants_in rows) j < instant
  pub above : (j : ℕ) → high ≤ j → j < length rows → instant ≤ slice_index (instants_in rows) j

abbrev pub invariant-loop-low : goal.invariant-loop-low
invariant-loop-low l = Narrowed l.rows.rows l.instant l.low l.high

abbrev pub decreases-loop-low : goal.decreases-loop-low
decreases-loop-low l = l.high - l.low
