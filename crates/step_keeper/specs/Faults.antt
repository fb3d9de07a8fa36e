-- Why a step is not kept.
use Rattle.std.specs.Prelude.{◌≡◌, ◌⊎◌, ℕ, Option, Some, None}
use Rattle.outside.specs.Faults.{Rose}
use Rattle.sched_plain.specs.declared.step.Step.{Step}
use Rattle.step_keeper.specs.declared.fault.KeepFault.{KeepFault}
use Rattle.step_keeper.specs.declared.fault.KeepFault.TheVariants as faults

-- a fault has its cause: the file is full, as is said, or the count of faults of the disk has risen
abbrev pub Cause : (ℕ → ℕ → Type 0) → ℕ → ℕ → KeepFault → Type 0
Cause full before now (faults.Full end need) = full end need
Cause full before now faults.DiskFault = Rose before now

-- what a fault leaves in doubt: nothing where the file is full, and where the disk failed nothing or the step itself
abbrev pub Leaves : KeepFault → Step → Option Step → Type 0
Leaves (faults.Full end need) step doubt = doubt ≡ None
Leaves faults.DiskFault step doubt = (doubt ≡ None) ⊎ (doubt ≡ Some step)
