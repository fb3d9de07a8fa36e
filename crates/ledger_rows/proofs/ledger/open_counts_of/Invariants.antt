use Rattle.std.proofs.Common.{◌≡◌}
use Rattle.ledger_rows.proofs.OpenSums.{counts_below}
use Rattle.ledger_rows.proofs.ledger.open_counts_of.Given as goal

-- the shards so far are counted
abbrev pub invariant-loop-shard : goal.invariant-loop-shard
invariant-loop-shard l = l.counts ≡ counts_below l.lanes l.now.0 l.shard
