-- Serving has one result.
use Rattle.std.specs.Prelude.{◌≡◌, ℕ, Result, List}
use Rattle.sched_calls.specs.declared.reply.Refusal.{Refusal}
use Rattle.sched_calls.specs.declared.reply.Reply.{Reply}
use Rattle.expressions.specs.Calendar.{Calendar}
use Rattle.sched_plain.specs.History.{History}
use Rattle.sched_calls.specs.Serves.{End, Asked, ZoneSource, CatchUp, Works, Sweeps, Serves}

-- the same history, words left and ends left
pub record AreSame (one other : History) (left other_left : List ℕ) (ends other_ends : List End) : Type 0 where
  pub histories : one ≡ other
  pub words_left : left ≡ other_left
  pub ends_left : ends ≡ other_ends

-- working a shard
abbrev pub WorksOneWay : Type 0
WorksOneWay =
    (c : Calendar) (t shard : ℕ) (h one other : History) (words left other_left : List ℕ) (ends ends_left other_ends : List End)
    → Works c t shard h words ends one left ends_left → Works c t shard h words ends other other_left other_ends
    → AreSame one other left other_left ends_left other_ends

-- catching up
abbrev pub CatchUpsOneWay : Type 0
CatchUpsOneWay =
    (c : Calendar) (t : ℕ) (incs : List ℕ) (h one other : History) (words left other_left : List ℕ)
    → CatchUp c t incs h words one left → CatchUp c t incs h words other other_left → (one ≡ other) × (left ≡ other_left)

-- a sweep
abbrev pub SweepsOneWay : Type 0
SweepsOneWay =
    (c : Calendar) (t : ℕ) (shards : List ℕ) (h one other : History) (words left other_left : List ℕ) (ends ends_left other_ends : List End)
    → Sweeps c t shards h words ends one left ends_left → Sweeps c t shards h words ends other other_left other_ends
    → AreSame one other left other_left ends_left other_ends

-- a request, with its answer
abbrev pub ServesOneWay : Type 0
ServesOneWay =
    (c : Calendar) (source : ZoneSource) (t : ℕ) (h one other : History) (words left other_left : List ℕ) (ends ends_left other_ends : List End)
    (asked : Asked) (answer other_answer : Result Reply Refusal)
    → Serves c source t h words ends asked one left ends_left answer → Serves c source t h words ends asked other other_left other_ends other_answer
    → AreSame one other left other_left ends_left other_ends × (answer ≡ other_answer)
