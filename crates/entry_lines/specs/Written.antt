-- What is written in the line of an entry.
use Rattle.std.specs.Prelude.{ℕ, ◌+◌, min, List, slice_index_or}
use Rattle.sched_plain.specs.declared.entry.Entry.{Entry}
use Rattle.sched_plain.specs.declared.step.Pair.{Pair}
use Rattle.sched_plain.specs.Entries.{new_entry}

-- the instant, the entry, where its attempts begin, and the place of its policy
pub record Written : Type 0 where
  pub instant : ℕ
  pub entry : Entry
  pub start : ℕ
  pub policy : ℕ

abbrev pub new_line : Pair → ℕ → ℕ → Written
new_line pair start policy = record { instant = pair.instant; entry = new_entry pair.chosen; start = start; policy = policy }

-- its attempts begin one place later
abbrev pub moved : Written → Written
moved line = record line { start = min (line.start + 1) 4294967295 }

abbrev pub no_line : Written
no_line = record { instant = 0; entry = new_entry 0; start = 0; policy = 0 }

abbrev pub line_at : List Written → ℕ → Written
line_at lines place = slice_index_or lines place no_line

-- where its attempts end
abbrev pub stop : Written → ℕ
stop line = line.start + line.entry.used
