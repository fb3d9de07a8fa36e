use Rattle.std.proofs.Common.{◌≡◌, ℕ, ◌<◌, ◌≤◌}
use Rattle.sched_plain.specs.Leases.{freed}
use Rattle.policy_rules.specs.Shards.{holder_at}
use Rattle.policy_rules.proofs.leases.free_each.Given as goal

abbrev pub invariant-loop-shard : goal.invariant-loop-shard
invariant-loop-shard l =
    ((of : ℕ) → of < l.shard → holder_at l.holders of ≡ freed (holder_at l.initial.holders of))
    × ((of : ℕ) → l.shard ≤ of → holder_at l.holders of ≡ holder_at l.initial.holders of)
