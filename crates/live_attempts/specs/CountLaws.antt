-- How many steps a history has, with one more for the end of each attempt in the air.
use Rattle.std.specs.Prelude.{ℕ, ◌+◌, ◌≤◌, length}
use Rattle.plain_words.specs.declared.moment.Moment.{Moment}
use Rattle.plain_words.specs.declared.verdict.Verdict.{Verdict}
use Rattle.sched_plain.specs.declared.step.Step.{Step}
use Rattle.sched_plain.specs.declared.step.Step.TheVariants as steps
use Rattle.sched_plain.specs.History.{History, ◌upon◌, count}
use Rattle.expressions.specs.Calendar.{Calendar}
use Rattle.sched_plain.specs.Ledger.{ledger_of}
use Rattle.sched_plain.specs.Legal.{IsLegal, MayFollow}
use Rattle.ledger_rows.specs.Air.{airborne}

-- how many attempts are in the air
abbrev pub live_count : History → ℕ
live_count h = length (airborne (ledger_of h))

-- the steps and these attempts, each of which wants a step more to end
abbrev pub count_with_ends : History → ℕ
count_with_ends h = count h + live_count h

-- a step brings at most one attempt into the air, so it adds two at most
abbrev pub StepsAddTwo : Type 0
StepsAddTwo = (h : History) (s : Step) → count_with_ends (s upon h) ≤ count_with_ends h + 2

-- an End takes the place that was wanted for it: there was an attempt in the air, and the step adds nothing
pub record Pays (h : History) (s : Step) : Type 0 where
  pub live : 1 ≤ live_count h
  pub same : count_with_ends (s upon h) ≤ count_with_ends h

abbrev pub EndsPay : Type 0
EndsPay =
    (c : Calendar) (h : History) (at : Moment) (inc instant number : ℕ) (verdict : Verdict) (status : ℕ) → IsLegal c h
    → MayFollow c h (steps.End at inc instant number verdict status) → Pays h (steps.End at inc instant number verdict status)
