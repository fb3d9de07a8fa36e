-- The last attempt of an entry and its outcome, as a line has them.
use Rattle.std.specs.Prelude.{ℕ, Option, Some, None}
use Rattle.sched_plain.specs.declared.entry.Last.{Last}
use Rattle.sched_plain.specs.declared.entry.Last.TheVariants as lasts
use Rattle.sched_plain.specs.declared.outcome.Outcome.{Outcome}
use Rattle.sched_plain.specs.declared.outcome.Outcome.TheVariants as outcomes
use Rattle.entry_lines.specs.declared.line.LastKind.{LastKind}
use Rattle.entry_lines.specs.declared.line.LastKind.TheVariants as kinds
use Rattle.entry_lines.specs.declared.line.Mark.{Mark}
use Rattle.entry_lines.specs.declared.line.Mark.TheVariants as marks

abbrev pub last_of : LastKind → ℕ → Last
last_of kinds.NoAttempt at = lasts.NoAttempt
last_of kinds.Live at = lasts.Live at
last_of kinds.Lost at = lasts.Lost at
last_of kinds.Ended at = lasts.Ended at

abbrev pub kind_of : Last → LastKind
kind_of lasts.NoAttempt = kinds.NoAttempt
kind_of (lasts.Live at) = kinds.Live
kind_of (lasts.Lost at) = kinds.Lost
kind_of (lasts.Ended at) = kinds.Ended

-- its moment, 0 where there is no attempt
abbrev pub at_of : Last → ℕ
at_of lasts.NoAttempt = 0
at_of (lasts.Live at) = at
at_of (lasts.Lost at) = at
at_of (lasts.Ended at) = at

abbrev pub outcome_in : Mark → Option Outcome
outcome_in marks.Open = None
outcome_in marks.Done = Some outcomes.Done
outcome_in marks.Final = Some outcomes.Final
outcome_in marks.Attempts = Some outcomes.Attempts
outcome_in marks.Age = Some outcomes.Age
outcome_in marks.Cancelled = Some outcomes.Cancelled

abbrev pub mark_of : Option Outcome → Mark
mark_of None = marks.Open
mark_of (Some outcomes.Done) = marks.Done
mark_of (Some outcomes.Final) = marks.Final
mark_of (Some outcomes.Attempts) = marks.Attempts
mark_of (Some outcomes.Age) = marks.Age
mark_of (Some outcomes.Cancelled) = marks.Cancelled
