-- No attempt of a shard that was taken is in the air while it is worked.
use Rattle.std.specs.Prelude.{◌≡◌, ℕ, false, List}
use Rattle.sched_plain.specs.declared.outcome.Reason.{Reason}
use Rattle.sched_plain.specs.declared.step.Pair.{Pair}
use Rattle.sched_plain.specs.declared.step.Step.TheVariants as steps
use Rattle.sched_plain.specs.declared.work.Work.TheVariants as works
use Rattle.expressions.specs.Calendar.{Calendar}
use Rattle.plain_words.specs.Ids.{shard_of}
use Rattle.plain_words.specs.Lists.{some_pass}
use Rattle.sched_plain.specs.History.{History, ◌upon◌}
use Rattle.sched_plain.specs.Moments.{moment_of}
use Rattle.sched_plain.specs.Ledger.{ledger_of}
use Rattle.sched_plain.specs.Entries.{filed}
use Rattle.sched_plain.specs.Attempts.{is_live_last}
use Rattle.sched_plain.specs.Seen.{seen}
use Rattle.sched_plain.specs.Work.{work}
use Rattle.sched_calls.specs.Serves.{End, begin_of, end_of, taking_of}

-- no attempt of a shard is in the air
abbrev pub NoneLive : History → ℕ → Type 0
NoneLive h shard =
    (inc instant : ℕ) → shard_of inc ≡ shard → some_pass (λ f. is_live_last f.entry.last) (filed (ledger_of h) inc instant) ≡ false

-- a taking leaves none
abbrev pub TakingsRest : Type 0
TakingsRest = (h : History) (t shard : ℕ) → NoneLive (taking_of h t shard upon h) shard

-- where there is none, an Enter makes none
abbrev pub EntersRest : Type 0
EntersRest = (h : History) (t inc shard : ℕ) (pairs : List Pair) → NoneLive h shard → NoneLive (steps.Enter (moment_of t) inc pairs upon h) shard

-- nor does a Close
abbrev pub ClosesRest : Type 0
ClosesRest =
    (h : History) (t inc instant shard : ℕ) (reason : Reason) → NoneLive h shard
    → NoneLive (steps.Close (moment_of t) inc instant reason upon h) shard

-- an attempt that is begun and ended leaves none
abbrev pub AttemptsRest : Type 0
AttemptsRest =
    (h : History) (t inc instant shard : ℕ) (end : End) → NoneLive h shard
    → NoneLive (end_of h t inc instant end upon begin_of h t inc instant upon h) shard

-- nor does a Complete make one
abbrev pub CompletesRest : Type 0
CompletesRest = (h : History) (t inc shard : ℕ) → NoneLive h shard → NoneLive (steps.Complete (moment_of t) inc upon h) shard

-- where none is in the air, none is waited for
abbrev pub RestingNeverWaits : Type 0
RestingNeverWaits =
    (c : Calendar) (h : History) (shard t inc instant : ℕ) → NoneLive h shard → work (seen c h) shard t ≡ works.Live inc instant → ⊥
