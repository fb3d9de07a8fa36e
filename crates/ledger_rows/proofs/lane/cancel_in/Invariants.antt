use Rattle.std.proofs.Common.{◌≤◌, ◌-◌, length}
use Rattle.ledger_rows.specs.Rows.{cancelled_row}
use Rattle.ledger_rows.proofs.Wholes.{Evened}
use Rattle.ledger_rows.proofs.lane.cancel_in.Given as goal

-- the rows so far are cancelled, with their numbers, and the room stays
abbrev pub invariant-loop-place : goal.invariant-loop-place
invariant-loop-place l = Evened cancelled_row l.initial.rows l.rows l.wants l.from × (l.from ≤ length l.rows.rows)

abbrev pub decreases-loop-place : goal.decreases-loop-place
decreases-loop-place l = length l.rows.rows - l.from
