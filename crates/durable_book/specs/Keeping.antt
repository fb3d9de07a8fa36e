-- Why a step is denied, by who denies it: the machine that judges it, or what keeps it.
use Rattle.std.specs.Prelude.{◌≡◌, ℕ, ◌≤◌, Some}
use Rattle.sched_plain.specs.declared.step.Step.{Step}
use Rattle.sched_plain.specs.History.{History}
use Rattle.sched_plain.specs.Legal.{why}
use Rattle.sched_plain.specs.Moments.{moment, at_of}
use Rattle.book_parts.specs.Stands.{calendar}
use Rattle.durable_book.specs.declared.denial.Denial.{Denial}
use Rattle.durable_book.specs.declared.denial.Denial.TheVariants as denials
use Rattle.durable_book.specs.Acts.{IsCause}

-- the step is judged so over the history
abbrev pub IsJudged : Step → Denial → History → Type 0
IsJudged s (denials.Rule broken) h = why calendar h s ≡ Some broken
IsJudged s (denials.Full end need) h = ⊥
IsJudged s denials.DiskFault h = ⊥
IsJudged s denials.OutOfMemory h = Unit {0}

-- a step that may follow is not kept for this
abbrev pub IsUnkept : (ℕ → ℕ → Type 0) → Denial → Type 0
IsUnkept full (denials.Rule broken) = ⊥
IsUnkept full (denials.Full end need) = full end need
IsUnkept full denials.DiskFault = Unit {0}
IsUnkept full denials.OutOfMemory = Unit {0}

-- the step is denied for its cause over a history that is no later than it
abbrev pub IsDenied : (Step → ℕ → ℕ → Type 0) → Step → Denial → History → Type 0
IsDenied full s denial h = IsCause full s denial h × (moment h ≤ at_of s)

-- it is denied for a rule
abbrev pub IsRule : Denial → Type 0
IsRule (denials.Rule broken) = Unit {0}
IsRule other = ⊥
