-- The number of an attempt.
use Rattle.std.specs.Prelude.{ℕ, ◌+◌, Option, Some, None}
use Rattle.sched_plain.specs.declared.entry.Entry.{Entry}

-- the number behind those of an entry's attempts
abbrev pub number_behind : Option Entry → ℕ
number_behind None = 1
number_behind (Some entry) = entry.used + 1
