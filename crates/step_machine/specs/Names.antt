-- The names of schedules.
use Rattle.std.specs.Prelude.{ℕ, List}
use Rattle.sched_plain.specs.declared.row.Row.{Row}

-- group and name of a row
abbrev pub row_names : Row → List ℕ × List ℕ
row_names row = (row.group, row.name)
