-- What a call leaves in doubt. A step is in doubt once a call of the disk failed while it was kept, until that is settled.
use Rattle.std.specs.Prelude.{◌≡◌, ℕ, Option, Some, None}
use Rattle.sched_plain.specs.declared.step.Step.{Step}
use Rattle.sched_plain.specs.declared.step.Step.TheVariants as steps
use Rattle.durable_book.specs.declared.denial.Denial.{Denial}
use Rattle.durable_book.specs.declared.denial.Denial.TheVariants as denials

-- by this step no other worker than worker 0 takes a shard, or holds it longer
abbrev pub IsOwn : Step → Type 0
IsOwn (steps.Lease at shard worker epoch until) = worker ≡ 0
IsOwn other = Unit {0}

-- nothing is in doubt, or such a step is
abbrev pub IsOwnDoubt : Option Step → Type 0
IsOwnDoubt None = Unit {0}
IsOwnDoubt (Some s) = IsOwn s

-- what a denial leaves in doubt: only where the disk failed anything, and then such a step
abbrev pub IsLeft : Denial → Option Step → Type 0
IsLeft denials.DiskFault doubt = IsOwnDoubt doubt
IsLeft other doubt = doubt ≡ None
