-- The payload of each step: its cells, in order, and the frame that a journal appends.
use Rattle.std.specs.Prelude.{ℕ, ◌-◌, ◌≤◌, Bool, if◌then◌else◌, List, [], ◌∷◌, ◌++◌, length, Option, Some, None}
use Rattle.std.specs.List.{All}
use Rattle.plain_words.specs.declared.verdict.Verdict.{Verdict}
use Rattle.plain_words.specs.declared.verdict.Verdict.TheVariants as verdicts
use Rattle.sched_plain.specs.declared.outcome.Reason.{Reason}
use Rattle.sched_plain.specs.declared.outcome.Reason.TheVariants as reasons
use Rattle.sched_plain.specs.declared.schedule.Schedule.{Schedule}
use Rattle.sched_plain.specs.declared.write.Write.{Write}
use Rattle.sched_plain.specs.declared.write.Write.TheVariants as writes
use Rattle.sched_plain.specs.declared.step.Pair.{Pair}
use Rattle.sched_plain.specs.declared.step.Step.{Step}
use Rattle.sched_plain.specs.declared.step.Step.TheVariants as steps
use Rattle.expressions.specs.Spelling.{Spells}
use Rattle.step_codec.specs.Cells.{One, Two, Four, Eight, big_endian, Cell, Number, Words, Date, spelled}

-- a code of one byte
abbrev pub code : ℕ → Cell
code n = Number One n

-- a text that may be left out: no byte where it is
abbrev pub or_empty : Option (List ℕ) → List ℕ
or_empty None = []
or_empty (Some text) = text

-- 1 where it holds, else 0
abbrev pub flag : Bool → ℕ
flag holds = if holds then 1 else 0

abbrev pub verdict_code : Verdict → ℕ
verdict_code verdicts.Done = 1
verdict_code verdicts.Retry = 2
verdict_code verdicts.Final = 3

abbrev pub reason_code : Reason → ℕ
reason_code reasons.Attempts = 1
reason_code reasons.Age = 2

-- what a schedule says, in the order of its fields; the expression is the one that its text spells
abbrev pub content_cells : Schedule → List Cell
content_cells c =
    Words Two c.description ∷ Words Two c.text ∷ Words One c.zone
    ∷ Date c.start ∷ Date c.finish
    ∷ code (flag c.enabled) ∷ code (flag c.delete_after)
    ∷ Number Two c.window ∷ Number One c.policy.retries ∷ Number Four c.policy.age
    ∷ Words Two c.target ∷ Words Two c.role ∷ Words Two (or_empty c.queue) ∷ Words Four (or_empty c.input)
    ∷ []

-- the kind of a write, its token, group and name; a write of a group names no schedule
abbrev pub named_cells : ℕ → Option (List ℕ) → List ℕ → List ℕ → List Cell → List Cell
named_cells kind token group name more =
    code kind ∷ Words One (or_empty token) ∷ Words One group ∷ Words One name ∷ more

abbrev pub write_cells : Write → List Cell
write_cells (writes.CreateSchedule group name token content) = named_cells 1 token group name (content_cells content)
write_cells (writes.UpdateSchedule group name token content) = named_cells 2 token group name (content_cells content)
write_cells (writes.DeleteSchedule group name token) = named_cells 3 token group name []
write_cells (writes.CreateGroup name token) = named_cells 4 token name [] []
write_cells (writes.DeleteGroup name token) = named_cells 5 token name [] []

-- the instants of an Enter, each with how far behind it the chosen moment lies
abbrev pub pair_cells : List Pair → List Cell
pair_cells [] = []
pair_cells (pair ∷ more) = Number Eight pair.instant ∷ Number Four (pair.chosen - pair.instant) ∷ pair_cells more

-- the cells of a step: its tag, its moment, and its fields
abbrev pub cells : Step → List Cell
cells (steps.Boot at) = code 1 ∷ Number Eight at.0 ∷ []
cells (steps.Zone at name bytes) = code 2 ∷ Number Eight at.0 ∷ Words One name ∷ Words Four bytes ∷ []
cells (steps.Change at write) = code 3 ∷ Number Eight at.0 ∷ write_cells write
cells (steps.Enter at inc pairs) =
    code 4 ∷ Number Eight at.0 ∷ Number Four inc ∷ Number Two (length pairs) ∷ pair_cells pairs
cells (steps.Lease at shard worker epoch until) =
    code 5 ∷ Number Eight at.0 ∷ Number One shard ∷ Number Four worker ∷ Number Eight epoch ∷ Number Eight until ∷ []
cells (steps.Release at shard worker epoch) =
    code 6 ∷ Number Eight at.0 ∷ Number One shard ∷ Number Four worker ∷ Number Eight epoch ∷ []
cells (steps.Begin at inc instant number epoch) =
    code 7 ∷ Number Eight at.0 ∷ Number Four inc ∷ Number Eight instant ∷ Number Two number ∷ Number Eight epoch ∷ []
cells (steps.End at inc instant number verdict status) =
    code 8 ∷ Number Eight at.0 ∷ Number Four inc ∷ Number Eight instant ∷ Number Two number
    ∷ code (verdict_code verdict) ∷ Number Two status ∷ []
cells (steps.Close at inc instant reason) =
    code 9 ∷ Number Eight at.0 ∷ Number Four inc ∷ Number Eight instant ∷ code (reason_code reason) ∷ []
cells (steps.Complete at inc) = code 10 ∷ Number Eight at.0 ∷ Number Four inc ∷ []
cells (steps.Swept at shard) = code 11 ∷ Number Eight at.0 ∷ Number One shard ∷ []

-- what may be left out has a byte where it is there
abbrev pub IsFilled : Option (List ℕ) → Type 0
IsFilled None = Unit {0}
IsFilled (Some text) = 1 ≤ length text

-- nothing is there that the cells do not tell: the expression is the one that the text spells, and no text that may be
-- left out is there without a byte
pub record IsExactContent (c : Schedule) : Type 0 where
  pub expression : Spells c.text c.expr
  pub queue : IsFilled c.queue
  pub input : IsFilled c.input

abbrev pub IsExactWrite : Write → Type 0
IsExactWrite (writes.CreateSchedule group name token content) = IsFilled token × IsExactContent content
IsExactWrite (writes.UpdateSchedule group name token content) = IsFilled token × IsExactContent content
IsExactWrite (writes.DeleteSchedule group name token) = IsFilled token
IsExactWrite (writes.CreateGroup name token) = IsFilled token
IsExactWrite (writes.DeleteGroup name token) = IsFilled token

-- nor does a chosen moment lie before its instant
abbrev pub IsExact : Step → Type 0
IsExact (steps.Change at write) = IsExactWrite write
IsExact (steps.Enter at inc pairs) = All (λ p. p.instant ≤ p.chosen) pairs
IsExact step = Unit {0}

-- the payload of a step
unfoldable pub payload_of : Step → List ℕ
payload_of step = spelled (cells step)

-- what a journal appends: the payload's length in four bytes, the payload, and a closed gate
abbrev pub frame : List ℕ → List ℕ
frame bytes = big_endian Four (length bytes) ++ bytes ++ 0 ∷ []
