-- Where a sweep by worker 0 stands, what is left of it there, and over which histories it may stand there.
use Rattle.std.specs.Prelude.{◌≡◌, ℕ, ◌<◌, ◌≤◌, List, [], ◌∷◌}
use Rattle.plain_words.specs.Moments.{moment_of}
use Rattle.sched_plain.specs.declared.step.Step.TheVariants as steps
use Rattle.sched_plain.specs.History.{History, ◌upon◌}
use Rattle.sched_plain.specs.Leases.{holder}
use Rattle.sched_plain.specs.Moments.{moment}
use Rattle.sched_calls.specs.Serves.{End, Sweeps, release_of}
use Rattle.sweep_laws.specs.EndLaws.{SweepRest}
use Rattle.sweep_laws.specs.KeptLaws.{NoOtherHolds}
use Rattle.sweep_laws.specs.RestLaws.{NoneLive}
use Rattle.book_parts.specs.Stands.{calendar}

-- before these shards; at the work of a shard, these behind it; at an attempt of an occurrence, with its number, that has no End
-- yet; or at a shard that is swept and not yet given back
pub data Place : Type 0 where
  Before : List ℕ → Place
  AtWork : ℕ → List ℕ → Place
  InAttempt : ℕ → ℕ → ℕ → ℕ → List ℕ → Place
  Unreleased : ℕ → List ℕ → Place

-- the rest of a sweep at an attempt: its End, then what is left of its shard and of those behind it
pub record RestOfAttempt (t inc instant number shard : ℕ) (shards : List ℕ) (h : History) (words : List ℕ) (ends : List End) (after : History) : Type 0 where
  pub end : End
  pub ends_left : List End
  pub taken : ends ≡ end ∷ ends_left
  pub shard_left : SweepRest calendar t shard shards (steps.End (moment_of t) inc instant number end.0 end.1 upon h) words ends_left after [] []

-- the rest of a sweep from a place on: from a history, with exactly these words and ends, to the one behind its last step
abbrev pub Rest : ℕ → Place → History → List ℕ → List End → History → Type 0
Rest t (Before shards) h words ends after = Sweeps calendar t shards h words ends after [] []
Rest t (AtWork shard shards) h words ends after = SweepRest calendar t shard shards h words ends after [] []
Rest t (InAttempt inc instant number shard shards) h words ends after = RestOfAttempt t inc instant number shard shards h words ends after
Rest t (Unreleased shard shards) h words ends after = Sweeps calendar t shards (release_of h t shard upon h) words ends after [] []

-- at the work of a shard no attempt of it is in the air, and at an attempt none but that one is
abbrev pub IsAt : ℕ → Place → History → Type 0
IsAt t (Before shards) h = Unit {0}
IsAt t (AtWork shard shards) h = NoneLive h shard
IsAt t (InAttempt inc instant number shard shards) h =
    (end : End) → NoneLive (steps.End (moment_of t) inc instant number end.0 end.1 upon h) shard
IsAt t (Unreleased shard shards) h = Unit {0}

-- worker 0 is the one that took the shard last
abbrev pub IsOwn : ℕ → History → Type 0
IsOwn shard h = ((holder h shard).worker ≡ 0) × (0 < (holder h shard).epoch)

-- the shard that the sweep is at is its own
abbrev pub IsTaken : Place → History → Type 0
IsTaken (Before shards) h = Unit {0}
IsTaken (AtWork shard shards) h = IsOwn shard h
IsTaken (InAttempt inc instant number shard shards) h = IsOwn shard h
IsTaken (Unreleased shard shards) h = IsOwn shard h

-- a history over which a sweep at a moment may stand at a place
pub record Fit (t : ℕ) (p : Place) (h : History) : Type 0 where
  pub free : NoOtherHolds h t
  pub early : moment h ≤ t
  pub at_place : IsAt t p h
  pub taken : IsTaken p h

-- something is left to be done at a place
abbrev pub IsUnfinished : Place → Type 0
IsUnfinished (Before []) = ⊥
IsUnfinished other = Unit {0}
