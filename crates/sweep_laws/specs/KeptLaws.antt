-- Serving keeps a history legal, and its steps valid.
use Rattle.std.specs.Prelude.{◌≡◌, ℕ, ◌+◌, ◌<◌, ◌^◌, false, None, Result, Ok, Err, List, [], ◌∷◌, length}
use Rattle.sched_calls.specs.declared.call.Call.TheVariants as calls
use Rattle.sched_calls.specs.declared.reply.Refusal.{Refusal}
use Rattle.sched_calls.specs.declared.reply.Reply.{Reply}
use Rattle.sched_plain.specs.declared.work.Work.TheVariants as works
use Rattle.expressions.specs.Calendar.{Calendar}
use Rattle.sched_plain.specs.History.{History}
use Rattle.sched_plain.specs.Leases.{holder, is_held}
use Rattle.sched_plain.specs.Seen.{seen}
use Rattle.sched_plain.specs.Work.{first_open, work}
use Rattle.sched_plain.specs.Validity.{IsShard, IsStatus, IsWrite}
use Rattle.sched_calls.specs.Serves.{End, Asked, ZoneSource, CatchUp, Works, Sweeps, Serves}
use Rattle.sweep_laws.specs.ValidLaws.{IsGood}

-- each end has a status that there is
abbrev pub AllStatuses : List End → Type 0
AllStatuses [] = Unit {0}
AllStatuses (end ∷ ends) = IsStatus end.1 × AllStatuses ends

-- each of these is a shard
abbrev pub AllShards : List ℕ → Type 0
AllShards [] = Unit {0}
AllShards (shard ∷ shards) = IsShard shard × AllShards shards

-- no shard is held by another worker than worker 0 past a moment
abbrev pub NoOtherHolds : History → ℕ → Type 0
NoOtherHolds h t = (shard : ℕ) → is_held (holder h shard) t 0 ≡ false

-- each shard has so many epochs left
abbrev pub HasEpochs : History → ℕ → Type 0
HasEpochs h n = (shard : ℕ) → (holder h shard).epoch + n < 2 ^ 64

-- what is asked for may be served: a write is within its limits; for a sweep no other worker holds a shard, each shard has
-- eight epochs left, and the ends have statuses that there are
abbrev pub IsServable : Asked → History → ℕ → List End → Type 0
IsServable (Ok (calls.Write write)) h t ends = IsWrite write
IsServable (Ok (calls.Read read)) h t ends = Unit {0}
IsServable (Ok calls.Sweep) h t ends = NoOtherHolds h t × HasEpochs h 8 × AllStatuses ends
IsServable (Err refusal) h t ends = Unit {0}

-- a shard was worked until it asks for nothing, and who holds the shards stayed
pub record IsWorked (c : Calendar) (t shard : ℕ) (h after : History) (ends_left : List End) : Type 0 where
  pub good : IsGood c after t
  pub settled : work (seen c after) shard t ≡ works.Settled
  pub holders : (s : ℕ) → holder after s ≡ holder h s
  pub statuses : AllStatuses ends_left

-- the work of a shard
abbrev pub WorksKeep : Type 0
WorksKeep =
    (c : Calendar) (t shard : ℕ) (h after : History) (words left : List ℕ) (ends ends_left : List End)
    → Works c t shard h words ends after left ends_left → IsGood c h t → AllStatuses ends → IsWorked c t shard h after ends_left

-- catching up
abbrev pub CatchUpsKeep : Type 0
CatchUpsKeep =
    (c : Calendar) (t : ℕ) (incs : List ℕ) (h after : History) (words left : List ℕ)
    → CatchUp c t incs h words after left → IsGood c h t → IsGood c after t

-- it leaves nothing to be entered
abbrev pub CatchUpsCatchUp : Type 0
CatchUpsCatchUp =
    (c : Calendar) (t : ℕ) (incs : List ℕ) (h after : History) (words left : List ℕ)
    → CatchUp c t incs h words after left → first_open (seen c after).times t incs ≡ None

-- a sweep of shards that no other worker holds
abbrev pub SweepsKeep : Type 0
SweepsKeep =
    (c : Calendar) (t : ℕ) (shards : List ℕ) (h after : History) (words left : List ℕ) (ends ends_left : List End)
    → Sweeps c t shards h words ends after left ends_left → IsGood c h t → AllStatuses ends
    → AllShards shards → NoOtherHolds h t → HasEpochs h (length shards) → IsGood c after t

-- a request
abbrev pub ServesKeep : Type 0
ServesKeep =
    (c : Calendar) (source : ZoneSource) (t : ℕ) (h after : History) (words left : List ℕ) (ends ends_left : List End) (asked : Asked) (answer : Result Reply Refusal)
    → Serves c source t h words ends asked after left ends_left answer → IsGood c h t → IsServable asked h t ends → IsGood c after t
