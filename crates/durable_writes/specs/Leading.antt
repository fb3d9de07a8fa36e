-- The way of a write that is accepted: the steps that are added before its Change.
use Rattle.std.specs.Prelude.{◌≡◌, ℕ, Option, None, Result, Ok, List, [], ◌++◌}
use Rattle.sched_plain.specs.declared.step.Step.{Step}
use Rattle.sched_plain.specs.declared.write.Write.{Write}
use Rattle.sched_plain.specs.History.{History, Extends}
use Rattle.sched_calls.specs.declared.reply.Refusal.{Refusal}
use Rattle.sched_calls.specs.declared.reply.Reply.{Reply}
use Rattle.sched_calls.specs.Serves.{ZoneSource, Accepts, kept_for, fault_of, needed_zone, ends_in}
use Rattle.book_parts.specs.Stands.{calendar}
use Rattle.write_plans.specs.declared.plan.Plan.{Plan}
use Rattle.write_plans.specs.declared.plan.Plan.TheVariants as plans
use Rattle.durable_book.specs.declared.grow_fault.GrowFault.{GrowFault}
use Rattle.durable_book.specs.Acts.{IsCause}
use Rattle.durable_book.specs.Faults.{grow_denial}
use Rattle.durable_book.specs.declared.grow_fault.GrowFault.TheVariants as grows
use Rattle.durable_writes.specs.declared.write_fault.WriteFault.{WriteFault}
use Rattle.durable_writes.specs.declared.write_fault.WriteFault.TheVariants as faults
use Rattle.durable_writes.specs.declared.onward.Next.{Next}
use Rattle.durable_writes.specs.declared.onward.Next.TheVariants as nexts
use Rattle.durable_writes.specs.Words.{Draws}

-- no rule stops a write: its token is new, the schedules and groups allow it, and its zone has bytes
pub record IsUnhindered (write : Write) (h : History) : Type 0 where
  pub new : kept_for h write ≡ None
  pub allowed : fault_of h write ≡ None
  pub zone : needed_zone h write ≡ None

-- the plan of a write that no rule stops
abbrev pub plan_onward : Next → Plan
plan_onward (nexts.CatchUp inc) = plans.CatchUp inc
plan_onward (nexts.Ready step) = plans.Ready step

-- from one history to another, with these words: what accepts the write behind it accepts it with them before it
pub record Leads (source : ZoneSource) (t : ℕ) (write : Write) (words : List ℕ) (h after : History) : Type 0 where
  pub onward : (more left : List ℕ) (last : History) (answer : Result Reply Refusal)
      → Accepts calendar source t after write more last left answer → Accepts calendar source t h write (words ++ more) last left answer
  pub from : Extends h after
  pub ends : ends_in after ≡ ends_in h

-- the write was accepted, whatever the source of zones is
pub record IsAccepted (t : ℕ) (write : Write) (told told' : Option (List ℕ)) (reply : Reply) (h after : History) : Type 0 where
  pub words : List ℕ
  pub accepts : (source : ZoneSource) → Accepts calendar source t h write words after [] (Ok reply)
  pub draws : Draws h after words [] told told'

-- a step that may follow is not added
abbrev pub IsDenied : (Step → ℕ → ℕ → Type 0) → GrowFault → History → Type 0
IsDenied full fault after = (s : Step) × IsCause full s (grow_denial fault) after

-- the write was stopped on its way, before its Change
pub record IsStopped (full : Step → ℕ → ℕ → Type 0) (t : ℕ) (write : Write) (told told' : Option (List ℕ)) (fault : GrowFault) (h after : History) : Type 0 where
  pub words : List ℕ
  pub dropped : List ℕ
  pub unhindered : IsUnhindered write after
  pub leads : (source : ZoneSource) → Leads source t write words h after
  pub draws : Draws h after words dropped told told'
  pub cause : IsDenied full fault after

-- what is told of a write where a step of it is not added
abbrev pub write_fault : GrowFault → WriteFault
write_fault (grows.Full end need) = faults.Full end need
write_fault grows.DiskFault = faults.DiskFault
write_fault grows.OutOfMemory = faults.OutOfMemory

-- the same, by what is told of it
pub record StopsWrite (full : Step → ℕ → ℕ → Type 0) (t : ℕ) (write : Write) (told told' : Option (List ℕ)) (fault : WriteFault) (h after : History) : Type 0 where
  pub denied : GrowFault
  pub as_told : fault ≡ write_fault denied
  pub stopped : IsStopped full t write told told' denied h after
