-- The laws of the journals of histories.
use Rattle.std.specs.Prelude.{◌≡◌, ℕ, List}
use Rattle.expressions.specs.Calendar.{Calendar}
use Rattle.sched_plain.specs.History.{History, count}
use Rattle.journal_steps.specs.Journals.{BeginsLike, Reading, ReadsAs}

-- a file is one thing to a reader
abbrev pub FilesAreReadInOneWay : Type 0
FilesAreReadInOneWay = (c : Calendar) (file : List ℕ) (one other : Reading) → ReadsAs c one file → ReadsAs c other file → one ≡ other

-- as many records at its front are those of one history
abbrev pub HistoriesHaveOneJournal : Type 0
HistoriesHaveOneJournal = (c : Calendar) (file : List ℕ) (h other : History) → BeginsLike c h file → BeginsLike c other file → count h ≡ count other → h ≡ other
