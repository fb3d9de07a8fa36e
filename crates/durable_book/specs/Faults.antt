-- What the faults of each call say of the step that was not added, and for what a step of each kind may be denied.
use Rattle.std.specs.Prelude.{ℕ}
use Rattle.sched_plain.specs.declared.why.Why.TheVariants as whys
use Rattle.durable_book.specs.declared.begin_fault.BeginFault.{BeginFault}
use Rattle.durable_book.specs.declared.begin_fault.BeginFault.TheVariants as begins
use Rattle.durable_book.specs.declared.close_fault.CloseFault.{CloseFault}
use Rattle.durable_book.specs.declared.close_fault.CloseFault.TheVariants as closes
use Rattle.durable_book.specs.declared.end_fault.EndFault.{EndFault}
use Rattle.durable_book.specs.declared.end_fault.EndFault.TheVariants as ends
use Rattle.durable_book.specs.declared.denial.Denial.{Denial}
use Rattle.durable_book.specs.declared.denial.Denial.TheVariants as denials
use Rattle.durable_book.specs.declared.complete_fault.CompleteFault.{CompleteFault}
use Rattle.durable_book.specs.declared.complete_fault.CompleteFault.TheVariants as completes
use Rattle.durable_book.specs.declared.grow_fault.GrowFault.{GrowFault}
use Rattle.durable_book.specs.declared.grow_fault.GrowFault.TheVariants as grows
use Rattle.durable_book.specs.declared.hold_fault.HoldFault.{HoldFault}
use Rattle.durable_book.specs.declared.hold_fault.HoldFault.TheVariants as holds
use Rattle.durable_book.specs.declared.lease_fault.LeaseFault.{LeaseFault}
use Rattle.durable_book.specs.declared.lease_fault.LeaseFault.TheVariants as leases
use Rattle.durable_book.specs.declared.swept_fault.SweptFault.{SweptFault}
use Rattle.durable_book.specs.declared.swept_fault.SweptFault.TheVariants as sweeps

-- why a step that may follow is not added
abbrev pub grow_denial : GrowFault → Denial
grow_denial (grows.Full end need) = denials.Full end need
grow_denial grows.DiskFault = denials.DiskFault
grow_denial grows.OutOfMemory = denials.OutOfMemory

-- a step that may follow breaks no rule
abbrev pub IsOfGrowing : Denial → Type 0
IsOfGrowing (denials.Rule broken) = ⊥
IsOfGrowing other = Unit {0}

-- why a shard is not taken
abbrev pub lease_denial : LeaseFault → Denial
lease_denial (leases.Held worker until) = denials.Rule (whys.Held worker until)
lease_denial (leases.Full end need) = denials.Full end need
lease_denial leases.DiskFault = denials.DiskFault
lease_denial leases.OutOfMemory = denials.OutOfMemory

-- a taking breaks no rule but that another worker holds the shard
abbrev pub IsOfTaking : Denial → Type 0
IsOfTaking (denials.Rule (whys.Held worker until)) = Unit {0}
IsOfTaking (denials.Rule other) = ⊥
IsOfTaking other = Unit {0}

-- why a worker's hold is not changed
abbrev pub hold_denial : HoldFault → Denial
hold_denial (holds.Stale epoch) = denials.Rule (whys.Stale epoch)
hold_denial (holds.Full end need) = denials.Full end need
hold_denial holds.DiskFault = denials.DiskFault
hold_denial holds.OutOfMemory = denials.OutOfMemory

-- a Release breaks no rule but that the worker is not the last taker
abbrev pub IsOfHolding : Denial → Type 0
IsOfHolding (denials.Rule (whys.Stale epoch)) = Unit {0}
IsOfHolding (denials.Rule other) = ⊥
IsOfHolding other = Unit {0}

-- why a schedule is not removed
abbrev pub complete_denial : CompleteFault → Denial
complete_denial completes.NotYet = denials.Rule whys.NotComplete
complete_denial (completes.Full end need) = denials.Full end need
complete_denial completes.DiskFault = denials.DiskFault
complete_denial completes.OutOfMemory = denials.OutOfMemory

-- a Complete breaks no rule but that the schedule is not finished
abbrev pub IsOfCompleting : Denial → Type 0
IsOfCompleting (denials.Rule whys.NotComplete) = Unit {0}
IsOfCompleting (denials.Rule other) = ⊥
IsOfCompleting other = Unit {0}

-- why a shard is not marked as swept
abbrev pub swept_denial : SweptFault → Denial
swept_denial (sweeps.Again work) = denials.Rule (whys.Work work)
swept_denial (sweeps.Full end need) = denials.Full end need
swept_denial sweeps.DiskFault = denials.DiskFault
swept_denial sweeps.OutOfMemory = denials.OutOfMemory

-- a Swept breaks no rule but that there is work
abbrev pub IsOfSweeping : Denial → Type 0
IsOfSweeping (denials.Rule (whys.Work work)) = Unit {0}
IsOfSweeping (denials.Rule other) = ⊥
IsOfSweeping other = Unit {0}

-- why an attempt is not begun
abbrev pub begin_denial : BeginFault → Denial
begin_denial (begins.Stale epoch) = denials.Rule (whys.Stale epoch)
begin_denial (begins.NotDue standing) = denials.Rule (whys.Standing standing)
begin_denial (begins.Full end need) = denials.Full end need
begin_denial begins.DiskFault = denials.DiskFault
begin_denial begins.OutOfMemory = denials.OutOfMemory

-- a Begin of an entry's next attempt breaks no rule but that of the epoch or of the standing
abbrev pub IsOfBeginning : Denial → Type 0
IsOfBeginning (denials.Rule (whys.Stale epoch)) = Unit {0}
IsOfBeginning (denials.Rule (whys.Standing standing)) = Unit {0}
IsOfBeginning (denials.Rule other) = ⊥
IsOfBeginning other = Unit {0}

-- why an attempt is not ended
abbrev pub end_denial : EndFault → Denial
end_denial (ends.Stale epoch) = denials.Rule whys.NotLive
end_denial ends.DiskFault = denials.DiskFault

-- an End wants neither room nor memory
abbrev pub IsOfEnding : Denial → Type 0
IsOfEnding (denials.Rule broken) = Unit {0}
IsOfEnding (denials.Full end need) = ⊥
IsOfEnding denials.DiskFault = Unit {0}
IsOfEnding denials.OutOfMemory = ⊥

-- what is said of an End that is denied in a shard of this epoch
abbrev pub ended_for : Denial → ℕ → EndFault
ended_for (denials.Rule broken) epoch = ends.Stale epoch
ended_for other epoch = ends.DiskFault

-- why an entry is not closed
abbrev pub close_denial : CloseFault → Denial
close_denial (closes.Open standing) = denials.Rule (whys.Standing standing)
close_denial (closes.Full end need) = denials.Full end need
close_denial closes.DiskFault = denials.DiskFault
close_denial closes.OutOfMemory = denials.OutOfMemory

-- a Close of an entry, whatever its reason, is judged by where the entry stands
abbrev pub IsOfClosing : Denial → Type 0
IsOfClosing (denials.Rule (whys.Standing standing)) = Unit {0}
IsOfClosing other = ⊥
