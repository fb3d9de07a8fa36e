-- Which steps end an attempt.
use Rattle.sched_plain.specs.declared.step.Step.{Step}
use Rattle.sched_plain.specs.declared.step.Step.TheVariants as steps

-- the step ends an attempt
abbrev pub IsEnd : Step → Type 0
IsEnd (steps.End at inc instant number verdict status) = Unit {0}
IsEnd s = ⊥
