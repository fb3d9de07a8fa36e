-- How it is answered whether a step may follow.
use Rattle.std.specs.Prelude.{◌≡◌, Option, Some, None, Result, Ok, Err}
use Rattle.sched_plain.specs.declared.step.Step.{Step}
use Rattle.sched_plain.specs.declared.step.Step.TheVariants as steps
use Rattle.sched_plain.specs.declared.why.Why.{Why}
use Rattle.book_parts.specs.declared.following.LegalFault.{LegalFault}
use Rattle.book_parts.specs.declared.following.LegalFault.TheVariants as faults

-- Ok exactly where no rule is broken, else the first one that is; want of memory says nothing
abbrev pub Judges : {A : Type 0} → Result A LegalFault → Option Why → Type 0
Judges (Ok done) broken = broken ≡ None
Judges (Err faults.OutOfMemory) broken = Unit {0}
Judges (Err (faults.Why why)) broken = broken ≡ Some why

-- the step is judged without memory: it is neither a Zone nor an Enter
abbrev pub WantsNoMemory : Step → Type 0
WantsNoMemory (steps.Zone at name bytes) = ⊥
WantsNoMemory (steps.Enter at inc pairs) = ⊥
WantsNoMemory s = Unit {0}
