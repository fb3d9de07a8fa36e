-- The contents of schedules are within their limits.
use Rattle.std.specs.Prelude.{List, [], ◌∷◌}
use Rattle.sched_plain.specs.declared.row.Row.{Row}
use Rattle.sched_plain.specs.declared.row.Revision.{Revision}
use Rattle.sched_plain.specs.Validity.{IsContent}

-- the contents of these revisions are
abbrev pub AreContents : List Revision → Type 0
AreContents [] = Unit {0}
AreContents (revision ∷ more) = IsContent revision.content × AreContents more

-- so are those of all rows
abbrev pub HaveContents : List Row → Type 0
HaveContents [] = Unit {0}
HaveContents (row ∷ rows) = AreContents row.revisions × HaveContents rows
