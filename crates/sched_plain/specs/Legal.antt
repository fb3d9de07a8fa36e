-- Legal histories: each step may follow the steps before it.
use Rattle.std.specs.Prelude.{◌≡◌, ℕ, ◌+◌, Option, None}
use Rattle.std.specs.Option.{option_map}
use Rattle.sched_plain.specs.declared.step.Step.{Step}
use Rattle.sched_plain.specs.declared.why.Why.{Why}
use Rattle.sched_plain.specs.History.{History, beginning, based, ◌upon◌, count}
use Rattle.plain_words.specs.Lists.{or_else}
use Rattle.expressions.specs.Calendar.{Calendar}
use Rattle.sched_plain.specs.Seen.{seen}
use Rattle.sched_plain.specs.Rules.{rule}

-- why a step may not follow a history: the first rule that it breaks
abbrev pub why : Calendar → History → Step → Option Why
why c h s = rule (seen c h) s

-- the step may follow the history
abbrev pub MayFollow : Calendar → History → Step → Type 0
MayFollow c h s = why c h s ≡ None

-- each step may follow the steps before it. No base is legal: what makes one sound is not defined yet
abbrev pub IsLegal : Calendar → History → Type 0
IsLegal c beginning = Unit {0}
IsLegal c (based b kept) = ⊥
IsLegal c (s upon h) = IsLegal c h × MayFollow c h s

-- the place of the first step that may not follow, and why; the steps upon a base are looked at alone
abbrev pub first_illegal : Calendar → History → Option (ℕ × Why)
first_illegal c beginning = None
first_illegal c (based b kept) = None
first_illegal c (s upon h) = or_else (first_illegal c h) (option_map (λ broken. (count h + 1, broken)) (why c h s))
