-- The words by which bodies show states, actions, verdicts and outcomes, and the member that shows a new arn.
use Rattle.std.specs.Prelude.{ℕ, Bool, true, false, nat_eq, if◌then◌else◌, Option, Some, None, List, codes}
use Rattle.std.specs.List.{starts_with}
use Rattle.plain_words.specs.declared.verdict.Verdict.{Verdict}
use Rattle.plain_words.specs.declared.verdict.Verdict.TheVariants as verdicts
use Rattle.sched_plain.specs.declared.entry.Fate.{Fate}
use Rattle.sched_plain.specs.declared.entry.Fate.TheVariants as fates
use Rattle.sched_plain.specs.declared.outcome.Outcome.{Outcome}
use Rattle.sched_plain.specs.declared.outcome.Outcome.TheVariants as outcomes

-- whether a schedule has occurrences
abbrev pub state_word : Bool → List ℕ
state_word true = codes "ENABLED"
state_word false = codes "DISABLED"

-- whether a schedule is deleted once it has nothing left to do
abbrev pub action_word : Bool → List ℕ
action_word true = codes "DELETE"
action_word false = codes "NONE"

-- what a reply of a target meant
abbrev pub verdict_word : Verdict → List ℕ
verdict_word verdicts.Done = codes "Done"
verdict_word verdicts.Retry = codes "Retry"
verdict_word verdicts.Final = codes "Final"

-- what became of an attempt
abbrev pub fate_word : Fate → List ℕ
fate_word fates.Live = codes "Live"
fate_word fates.Lost = codes "Lost"
fate_word (fates.Ended verdict status) = verdict_word verdict

-- how an entry was decided
abbrev pub outcome_word : Outcome → List ℕ
outcome_word outcomes.Done = codes "Done"
outcome_word outcomes.Final = codes "Final"
outcome_word outcomes.Attempts = codes "Attempts"
outcome_word outcomes.Age = codes "Age"
outcome_word outcomes.Cancelled = codes "Cancelled"

-- how an entry was decided, if it was
abbrev pub decided_word : Option Outcome → List ℕ
decided_word None = codes "Undecided"
decided_word (Some outcome) = outcome_word outcome

-- the member that shows the arn of what was created or updated: a group's arn says that it is one
abbrev pub created_member : List ℕ → List ℕ
created_member arn =
    if starts_with nat_eq arn (codes "arn:aws:scheduler:local:000000000000:schedule-group/") then codes "ScheduleGroupArn" else codes "ScheduleArn"
