-- What a sweep by worker 0 does with the history that its keeper stands for.
use Rattle.std.specs.Prelude.{◌≡◌, ℕ, Option, None, List, [], ◌++◌}
use Rattle.std.specs.Option.{option_map}
use Rattle.sched_plain.specs.declared.step.Step.{Step}
use Rattle.sched_plain.specs.History.{History}
use Rattle.sched_calls.specs.declared.call.Call.TheVariants as calls
use Rattle.sched_calls.specs.Serves.{End, Finds, ZoneSource, Sweeps, all_shards}
use Rattle.sweep_laws.specs.KeptLaws.{NoOtherHolds}
use Rattle.book_parts.specs.Stands.{calendar}
use Rattle.durable_book.specs.declared.grow_fault.GrowFault.{GrowFault}
use Rattle.durable_book.specs.declared.grow_fault.GrowFault.TheVariants as faults
use Rattle.durable_writes.specs.Words.{Draws}
use Rattle.durable_writes.specs.Writing.{IsFull, IsPart}
use Rattle.target_link.specs.declared.link.Sent.{Sent}
use Rattle.timer_work.specs.Sendings.{Reported}

-- whichever history is found, no shard is held by another worker than worker 0 past the moment
abbrev pub IsFree : Option Step → ℕ → History → Type 0
IsFree doubt t h = (found : History) → Finds h doubt found → NoOtherHolds found t

-- a sweep reads no zones
abbrev pub no_zones : ZoneSource
no_zones zone = None

-- the link was handed the requests of the attempts between two histories, each once and in order, and they ended as what came
-- back for them says: it told `sent` before and tells `sent'` now
pub record Sends (h after : History) (sent sent' : Option (List Sent)) : Type 0 where
  pub more : List Sent
  pub added : sent' ≡ option_map (λ before. before ++ more) sent
  pub reported : (before : List Sent) → Reported h before → Reported after (before ++ more)

-- a whole sweep of the history that was found
pub record SweepsAll (doubt : Option Step) (t : ℕ) (told told' : Option (List ℕ)) (sent sent' : Option (List Sent)) (h after : History) : Type 0 where
  pub found : History
  pub finds : Finds h doubt found
  pub words : List ℕ
  pub ends : List End
  pub swept : Sweeps calendar t all_shards found words ends after [] []
  pub draws : Draws found after words [] told told'
  pub sends : Sends found after sent sent'
  pub free : NoOtherHolds after t

-- why a sweep is cut: a step has no room
abbrev pub IsCauseOfStop : (Step → ℕ → ℕ → Type 0) → GrowFault → History → Type 0
IsCauseOfStop full (faults.Full end need) after = IsFull full end need after
IsCauseOfStop full faults.DiskFault after = Unit {0}
IsCauseOfStop full faults.OutOfMemory after = Unit {0}

-- a sweep that was cut: a front of its steps was added, perhaps none, and never all; each attempt that stands in them was sent
pub record CutsSweep (full : Step → ℕ → ℕ → Type 0) (doubt : Option Step) (t : ℕ) (told told' : Option (List ℕ)) (sent sent' : Option (List Sent)) (fault : GrowFault) (h after : History) : Type 0 where
  pub found : History
  pub finds : Finds h doubt found
  pub words : List ℕ
  pub dropped : List ℕ
  pub ends : List End
  pub part : IsPart no_zones t found words ends calls.Sweep after
  pub draws : Draws found after words dropped told told'
  pub sends : Sends found after sent sent'
  pub free : NoOtherHolds after t
  pub cause : IsCauseOfStop full fault after
