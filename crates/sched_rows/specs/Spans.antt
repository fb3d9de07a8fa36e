-- The spans of a schedule's revisions: all but the last have ended when the latest change is made.
use Rattle.std.specs.Prelude.{ℕ, ◌≤◌, ◌<◌, List, [], ◌∷◌, length}
use Rattle.sched_plain.specs.declared.row.Revision.{Revision}
use Rattle.sched_plain.specs.declared.row.Row.{Row}

-- all revisions but the last have ended by a moment
abbrev pub FrontEnded : ℕ → List Revision → Type 0
FrontEnded at [] = Unit {0}
FrontEnded at (revision ∷ []) = Unit {0}
FrontEnded at (revision ∷ next ∷ more) = (revision.to ≤ at) × FrontEnded at (next ∷ more)

-- a row has a revision, and all but its last have ended by a moment
pub record IsSpanned (at : ℕ) (row : Row) : Type 0 where
  pub some : 0 < length row.revisions
  pub front : FrontEnded at row.revisions

-- so it is of each row
abbrev pub AllSpanned : ℕ → List Row → Type 0
AllSpanned at [] = Unit {0}
AllSpanned at (row ∷ rows) = IsSpanned at row × AllSpanned at rows

-- each row has a revision
abbrev pub HasContents : List Row → Type 0
HasContents [] = Unit {0}
HasContents (row ∷ rows) = (0 < length row.revisions) × HasContents rows
