use Rattle.std.proofs.Common.{◌≡◌, ◌-◌, length}
use Rattle.ledger_rows.specs.Shelves.{shelf}
use Rattle.ledger_rows.proofs.OpenSums.{counts_before}
use Rattle.ledger_rows.proofs.ledger.open_counts_in.Given as goal

-- the lanes of the shard that are before the place are counted
abbrev pub invariant-loop-place : goal.invariant-loop-place
invariant-loop-place l = l.counts ≡ counts_before l.lanes l.now.0 l.shard l.from

abbrev pub decreases-loop-place : goal.decreases-loop-place
decreases-loop-place l = length (shelf l.shelves l.shard) - l.from
