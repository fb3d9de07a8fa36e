-- Serving only adds to a history, and takes its ends in order.
use Rattle.std.specs.Prelude.{◌≡◌, ℕ, ◌+◌, Result, List, [], ◌++◌, length}
use Rattle.sched_calls.specs.declared.reply.Refusal.{Refusal}
use Rattle.sched_calls.specs.declared.reply.Reply.{Reply}
use Rattle.expressions.specs.Calendar.{Calendar}
use Rattle.sched_plain.specs.History.{History, Extends}
use Rattle.sched_calls.specs.Serves.{End, Asked, ZoneSource, CatchUp, Works, Sweeps, Serves, ends_in}

-- from one history to another the first of these ends were taken, one for each End that was added
pub record Added (h after : History) (ends ends_left : List End) : Type 0 where
  pub from : Extends h after
  pub taken : List End
  pub in_order : ends ≡ taken ++ ends_left
  pub as_many : ends_in after ≡ ends_in h + length taken

-- working a shard
abbrev pub WorksAdd : Type 0
WorksAdd =
    (c : Calendar) (t shard : ℕ) (h after : History) (words left : List ℕ) (ends ends_left : List End)
    → Works c t shard h words ends after left ends_left → Added h after ends ends_left

-- catching up takes none
abbrev pub CatchUpsAdd : Type 0
CatchUpsAdd =
    (c : Calendar) (t : ℕ) (incs : List ℕ) (h after : History) (words left : List ℕ)
    → CatchUp c t incs h words after left → Added h after [] []

-- a sweep
abbrev pub SweepsAdd : Type 0
SweepsAdd =
    (c : Calendar) (t : ℕ) (shards : List ℕ) (h after : History) (words left : List ℕ) (ends ends_left : List End)
    → Sweeps c t shards h words ends after left ends_left → Added h after ends ends_left

-- a request
abbrev pub ServesAdd : Type 0
ServesAdd =
    (c : Calendar) (source : ZoneSource) (t : ℕ) (h after : History) (words left : List ℕ) (ends ends_left : List End) (asked : Asked) (answer : Result Reply Refusal)
    → Serves c source t h words ends asked after left ends_left answer → Added h after ends ends_left
