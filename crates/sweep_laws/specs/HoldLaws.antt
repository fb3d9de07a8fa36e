-- Who holds the shards while requests are served: no worker but worker 0.
use Rattle.std.specs.Prelude.{ℕ, ◌+◌, ◌≤◌, Result, List}
use Rattle.sched_calls.specs.declared.reply.Refusal.{Refusal}
use Rattle.sched_calls.specs.declared.reply.Reply.{Reply}
use Rattle.sched_plain.specs.declared.step.Step.TheVariants as steps
use Rattle.plain_words.specs.declared.moment.Moment.{Moment}
use Rattle.expressions.specs.Calendar.{Calendar}
use Rattle.sched_plain.specs.History.{History, ◌upon◌}
use Rattle.sched_calls.specs.Serves.{End, Asked, ZoneSource, Serves}
use Rattle.sweep_laws.specs.KeptLaws.{NoOtherHolds, HasEpochs}

-- behind a Boot no worker holds a shard
abbrev pub BootsFree : Type 0
BootsFree = (h : History) (at : Moment) (t : ℕ) → NoOtherHolds (steps.Boot at upon h) t

-- who holds none past a moment holds none past a later one
abbrev pub LaterFree : Type 0
LaterFree = (h : History) (t later : ℕ) → t ≤ later → NoOtherHolds h t → NoOtherHolds h later

-- a request served lets no other worker hold a shard
abbrev pub ServesFree : Type 0
ServesFree =
    (c : Calendar) (source : ZoneSource) (t : ℕ) (h after : History) (words left : List ℕ) (ends ends_left : List End) (asked : Asked) (answer : Result Reply Refusal)
    → Serves c source t h words ends asked after left ends_left answer → NoOtherHolds h t → NoOtherHolds after t

-- of eight more epochs than are left behind it, a request takes no more than eight
abbrev pub ServesEpochs : Type 0
ServesEpochs =
    (c : Calendar) (source : ZoneSource) (t : ℕ) (h after : History) (words left : List ℕ) (ends ends_left : List End) (asked : Asked) (answer : Result Reply Refusal) (n : ℕ)
    → Serves c source t h words ends asked after left ends_left answer → HasEpochs h (n + 8) → HasEpochs after n
