-- The steps that a sweep offers may follow.
use Rattle.std.specs.Prelude.{◌≡◌, ℕ, ◌≤◌, ◌<◌, false, List}
use Rattle.sched_plain.specs.declared.outcome.Reason.{Reason}
use Rattle.sched_plain.specs.declared.step.Step.TheVariants as steps
use Rattle.sched_plain.specs.declared.work.Work.TheVariants as works
use Rattle.expressions.specs.Calendar.{Calendar}
use Rattle.sched_plain.specs.History.{History, ◌upon◌}
use Rattle.sched_plain.specs.Moments.{moment, moment_of}
use Rattle.sched_plain.specs.Leases.{holder, is_held}
use Rattle.sched_plain.specs.Seen.{seen}
use Rattle.sched_plain.specs.Work.{work}
use Rattle.sched_plain.specs.Legal.{MayFollow}
use Rattle.sched_calls.specs.Serves.{End, wanted_enter, begin_of, end_of, taking_of, release_of}

-- the wanted Enter of any incarnation may follow, whatever words are drawn for it
abbrev pub EntersFollow : Type 0
EntersFollow =
    (c : Calendar) (h : History) (t inc : ℕ) (words : List ℕ) → moment h ≤ t → MayFollow c h (wanted_enter c h inc t words)

-- so may the Close that a shard asks for
abbrev pub ClosesFollow : Type 0
ClosesFollow =
    (c : Calendar) (h : History) (shard t inc instant : ℕ) (reason : Reason) → moment h ≤ t
    → work (seen c h) shard t ≡ works.Close inc instant reason → MayFollow c h (steps.Close (moment_of t) inc instant reason)

-- the Begin
abbrev pub BeginsFollow : Type 0
BeginsFollow =
    (c : Calendar) (h : History) (shard t inc instant : ℕ) → moment h ≤ t
    → work (seen c h) shard t ≡ works.Begin inc instant → MayFollow c h (begin_of h t inc instant)

-- behind it the End, whatever came of the attempt
abbrev pub EndsFollow : Type 0
EndsFollow =
    (c : Calendar) (h : History) (shard t inc instant : ℕ) (end : End)
    → work (seen c h) shard t ≡ works.Begin inc instant → MayFollow c (begin_of h t inc instant upon h) (end_of h t inc instant end)

-- the Complete
abbrev pub CompletesFollow : Type 0
CompletesFollow =
    (c : Calendar) (h : History) (shard t inc : ℕ) → moment h ≤ t
    → work (seen c h) shard t ≡ works.Complete inc → MayFollow c h (steps.Complete (moment_of t) inc)

-- the Swept of a shard that asks for nothing
abbrev pub SweptsFollow : Type 0
SweptsFollow =
    (c : Calendar) (h : History) (shard t : ℕ) → moment h ≤ t
    → work (seen c h) shard t ≡ works.Settled → MayFollow c h (steps.Swept (moment_of t) shard)

-- the taking by worker 0 of a shard that no other worker holds
abbrev pub TakingsFollow : Type 0
TakingsFollow =
    (c : Calendar) (h : History) (shard t : ℕ) → moment h ≤ t → is_held (holder h shard) t 0 ≡ false → MayFollow c h (taking_of h t shard)

-- its giving back, where worker 0 took it last
abbrev pub ReleasesFollow : Type 0
ReleasesFollow =
    (c : Calendar) (h : History) (shard t : ℕ) → moment h ≤ t → (holder h shard).worker ≡ 0 → 0 < (holder h shard).epoch
    → MayFollow c h (release_of h t shard)
