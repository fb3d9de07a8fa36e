-- Leases: who holds a shard, with which epoch, until when. A Lease with the next epoch is a taking, one with the
-- same epoch a renewal.
use Rattle.std.specs.Prelude.{ℕ, ◌+◌, ◌==◌, nat_lt, Bool, not, ◌&&◌, if◌then◌else◌}
use Rattle.sched_plain.specs.declared.holder.Holder.{Holder}
use Rattle.sched_plain.specs.declared.step.Step.TheVariants as steps
use Rattle.sched_plain.specs.Base.{of_the_shard}
use Rattle.sched_plain.specs.History.{History, beginning, based, ◌upon◌}

-- a shard that was never taken
abbrev pub untaken : Holder
untaken = record { worker = 0; epoch = 0; until = 0 }

-- a shard that is given back
abbrev pub freed : Holder → Holder
freed held = record held { until = 0 }

-- this epoch takes the shard from whoever held it
abbrev pub is_taking : Holder → ℕ → Bool
is_taking held epoch = epoch == held.epoch + 1

-- the shard after a Lease
abbrev pub leased : Holder → ℕ → ℕ → ℕ → Holder
leased held worker epoch until =
    record { worker = if is_taking held epoch then worker else held.worker; epoch = epoch; until = until }

-- who last took a shard, its epoch, and until when it is held: 0 where it is free. A base frees all shards, as a
-- Boot does
abbrev pub holder : History → ℕ → Holder
holder beginning shard = untaken
holder (based b kept) shard = record { worker = of_the_shard b.takers shard; epoch = of_the_shard b.epochs shard; until = 0 }
holder (steps.Boot at upon h) shard = freed (holder h shard)
holder (steps.Lease at of worker epoch until upon h) shard =
    if shard == of then leased (holder h shard) worker epoch until else holder h shard
holder (steps.Release at of worker epoch upon h) shard = if shard == of then freed (holder h shard) else holder h shard
holder (s upon h) shard = holder h shard

-- another worker holds the shard past this moment
abbrev pub is_held : Holder → ℕ → ℕ → Bool
is_held held at worker = nat_lt at held.until && not (worker == held.worker)

-- this worker took the shard with this epoch, the last one
abbrev pub is_taker : Holder → ℕ → ℕ → Bool
is_taker held worker epoch = nat_lt 0 epoch && epoch == held.epoch && worker == held.worker
