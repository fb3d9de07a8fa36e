-- What the faults of an opening tell.
use Rattle.std.specs.Prelude.{◌≡◌, ◌⊎◌, ℕ, List, Option, Some, None}
use Rattle.outside.specs.Faults.{Rose}
use Rattle.sched_plain.specs.History.{History}
use Rattle.book_parts.specs.Stands.{calendar}
use Rattle.journal_file.specs.Format.{DiffersAt}
use Rattle.journal_steps.specs.Journals.{DamagedAt, Reading, no_journal, damaged, journal}
use Rattle.step_recovery.specs.declared.fault.LoadFault.{LoadFault}
use Rattle.step_recovery.specs.declared.fault.LoadFault.TheVariants as faults

-- a fault of the disk comes only where a call of it failed
abbrev pub FromDisk : ℕ → ℕ → LoadFault → Type 0
FromDisk before now fault = fault ≡ faults.DiskFault → Rose before now

-- the fault does not lie in what the file holds
abbrev pub IsElsewhere : LoadFault → Type 0
IsElsewhere fault = (fault ≡ faults.DiskFault) ⊎ (fault ≡ faults.OutOfMemory)

-- the file is as the fault says
abbrev pub Tells : LoadFault → List ℕ → Type 0
Tells (faults.NotAJournal at) file = DiffersAt at file
Tells (faults.Damaged at) file = DamagedAt calendar at file
Tells faults.DiskFault file = Unit {0}
Tells faults.OutOfMemory file = Unit {0}

-- how it is told that a file is no journal of a legal history
abbrev pub is_told_as : Reading → Option LoadFault
is_told_as (no_journal at) = Some (faults.NotAJournal at)
is_told_as (damaged gate) = Some (faults.Damaged gate)
is_told_as (journal h) = None

-- what stands for the history of a journal
abbrev pub StandsAs : (History → Type 0) → Reading → Type 0
StandsAs stands (no_journal at) = ⊥
StandsAs stands (damaged gate) = ⊥
StandsAs stands (journal h) = stands h
