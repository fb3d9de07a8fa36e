-- Who holds the shards, and what comes of asking for one.
use Rattle.std.specs.Prelude.{◌≡◌, ℕ, ◌+◌, ◌==◌, ◌<◌, ◌⊎◌, true, if◌then◌else◌, Result, Ok, Err, IsErr, ◌↔◌, List, slice_get}
use Rattle.std.specs.Option.{unwrap_or}
use Rattle.plain_words.specs.declared.limits.TheConstants.{SHARDS, LEASE_SECONDS}
use Rattle.policy_rules.specs.declared.refusals.Held.{Held}
use Rattle.policy_rules.specs.declared.refusals.Stale.{Stale}
use Rattle.sched_plain.specs.declared.holder.Holder.{Holder}
use Rattle.sched_plain.specs.Base.{of_the_shard}
use Rattle.sched_plain.specs.declared.step.Step.{Step}
use Rattle.sched_plain.specs.History.{History, ◌upon◌}
use Rattle.sched_plain.specs.Leases.{untaken, is_held, is_taker, holder}

-- the holder of a shard
abbrev pub holder_at : List Holder → ℕ → Holder
holder_at holders shard = unwrap_or (slice_get holders shard) untaken

-- the holders are those of a history
abbrev pub AreOf : History → List Holder → Type 0
AreOf h holders = (shard : ℕ) → shard < SHARDS → holder_at holders shard ≡ holder h shard

-- one shard's holder was changed, and every other is the one before
abbrev pub ChangesOnly : ℕ → (Holder → Holder) → List Holder → List Holder → Type 0
ChangesOnly shard change before after =
    (of : ℕ) → of < SHARDS → holder_at after of ≡ (if of == shard then change (holder_at before of) else holder_at before of)

-- a call changed one shard's holder where it was Ok, and nothing where it was not
abbrev pub ChangesIfOk : {A E : Type 0} → Result A E → ℕ → (A → Holder → Holder) → List Holder → List Holder → Type 0
ChangesIfOk (Ok answer) shard change before after = ChangesOnly shard (change answer) before after
ChangesIfOk (Err refusal) shard change before after = after ≡ before

-- where the holders were those of a history, they are those of that history with this step upon it
abbrev pub Follows : Step → List Holder → List Holder → Type 0
Follows step before after = (h : History) → AreOf h before → AreOf (step upon h) after

-- this worker took the shard with this epoch, the last one, or the epoch is an earlier one
abbrev pub MayHaveTaken : Holder → ℕ → ℕ → Type 0
MayHaveTaken held worker epoch = (is_taker held worker epoch ≡ true) ⊎ (epoch < held.epoch)

-- such a worker is refused exactly where the shard's epoch is greater
abbrev pub IsRefusedOnceRisen : {A : Type 0} → Result A Stale → Holder → ℕ → ℕ → Type 0
IsRefusedOnceRisen result held worker epoch = MayHaveTaken held worker epoch → (IsErr result ↔ (epoch < held.epoch))

-- every shard's holder was changed
abbrev pub ChangesAll : (Holder → Holder) → List Holder → List Holder → Type 0
ChangesAll change before after = (of : ℕ) → of < SHARDS → holder_at after of ≡ change (holder_at before of)

-- what a worker is told that asks for a shard: the next epoch, unless another worker holds the shard past this moment
abbrev pub taking : Holder → ℕ → ℕ → Result ℕ Held
taking held worker now =
    if is_held held now worker then Err (record { worker = held.worker; until = held.until }) else Ok (held.epoch + 1)

-- what a worker is told that renews a lease: until when it lasts now, where it took the shard with this epoch, the last one
abbrev pub renewing : Holder → ℕ → ℕ → ℕ → Result ℕ Stale
renewing held worker epoch now =
    if is_taker held worker epoch then Ok (now + LEASE_SECONDS) else Err (record { epoch = held.epoch })

-- what a worker is told that gives a shard back: nothing, where it took the shard with this epoch, the last one
abbrev pub releasing : Holder → ℕ → ℕ → Result (Unit {0}) Stale
releasing held worker epoch = if is_taker held worker epoch then Ok tt else Err (record { epoch = held.epoch })

-- a free shard, with its epoch and its last taker
abbrev pub resumed_at : List ℕ → List ℕ → ℕ → Holder
resumed_at epochs takers shard =
    record { worker = of_the_shard takers shard; epoch = of_the_shard epochs shard; until = 0 }

-- all shards are free, each with its epoch and its last taker
abbrev pub AreResumed : List ℕ → List ℕ → List Holder → Type 0
AreResumed epochs takers holders = (of : ℕ) → of < SHARDS → holder_at holders of ≡ resumed_at epochs takers of
