use Rattle.std.proofs.Common.{◌≡◌, ℕ, ◌<◌, length}
use Rattle.plain_words.specs.declared.limits.TheConstants.{SHARDS}
use Rattle.policy_rules.specs.Shards.{holder_at, resumed_at}
use Rattle.policy_rules.proofs.leases.resumed.Given as goal

abbrev pub invariant-loop-shard : goal.invariant-loop-shard
invariant-loop-shard l =
    (length l.holders ≡ SHARDS) × ((of : ℕ) → of < l.shard → holder_at l.holders of ≡ resumed_at l.epochs l.takers of)
