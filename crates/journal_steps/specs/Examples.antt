-- Some short files.
use Rattle.std.specs.Prelude.{[], ◌∷◌, ◌++◌}
use Rattle.expressions.specs.Calendar.{Calendar}
use Rattle.plain_words.specs.Moments.{moment_of}
use Rattle.sched_plain.specs.declared.step.Step.TheVariants as steps
use Rattle.sched_plain.specs.History.{History, beginning, ◌upon◌}
use Rattle.journal_file.specs.declared.format.TheConstants.{HEADER}
use Rattle.journal_file.specs.Format.{empty_journal}
use Rattle.journal_steps.specs.Journals.{no_journal, damaged, journal, ReadsAs}

-- a program began
abbrev pub begun : History
begun = steps.Boot (moment_of 0) upon beginning

pub record JournalsOnExamples (c : Calendar) : Type 0 where
  pub nothing : ReadsAs c (no_journal 0) []
  pub empty : ReadsAs c (journal beginning) empty_journal
  pub one : ReadsAs c (journal begun) (HEADER ++ 1 ∷ 0 ∷ 0 ∷ 0 ∷ 9 ∷ 1 ∷ 0 ∷ 0 ∷ 0 ∷ 0 ∷ 0 ∷ 0 ∷ 0 ∷ 0 ∷ 0 ∷ [])
  -- what stands behind the closed gate has no meaning
  pub more : ReadsAs c (journal beginning) (HEADER ++ 0 ∷ 1 ∷ 0 ∷ 0 ∷ 0 ∷ 9 ∷ 1 ∷ [])
  pub no_gate : ReadsAs c (damaged 16) HEADER
  -- the payload of no step
  pub unread : ReadsAs c (damaged 30) (HEADER ++ 1 ∷ 0 ∷ 0 ∷ 0 ∷ 9 ∷ 1 ∷ 0 ∷ 0 ∷ 0 ∷ 0 ∷ 0 ∷ 0 ∷ 0 ∷ 0 ∷ 1 ∷ 0 ∷ 0 ∷ 0 ∷ 1 ∷ 99 ∷ 0 ∷ [])
  -- a Boot at 3 behind one at 0
  pub illegal : ReadsAs c (damaged 30) (HEADER ++ 1 ∷ 0 ∷ 0 ∷ 0 ∷ 9 ∷ 1 ∷ 0 ∷ 0 ∷ 0 ∷ 0 ∷ 0 ∷ 0 ∷ 0 ∷ 0 ∷ 1 ∷ 0 ∷ 0 ∷ 0 ∷ 9 ∷ 1 ∷ 0 ∷ 0 ∷ 0 ∷ 0 ∷ 0 ∷ 0 ∷ 0 ∷ 3 ∷ 0 ∷ [])
