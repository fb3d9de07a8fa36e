-- What contracts see of the rows: the schedules and groups of a list of accepted changes, and room for more.
use Rattle.std.specs.Prelude.{◌≡◌, ℕ, ◌≤◌, Bool, Option, Some, None, List, [], ◌∷◌, map}
use Rattle.std.specs.Option.{option_and_then}
use Rattle.plain_words.specs.Lists.{nth, some_pass}
use Rattle.sched_plain.specs.declared.row.GroupRow.{GroupRow}
use Rattle.sched_plain.specs.declared.row.Row.{Row}
use Rattle.sched_plain.specs.declared.write.Write.{Write}
use Rattle.sched_plain.specs.declared.write.Write.TheVariants as writes
use Rattle.sched_plain.specs.Changes.{Accepted, Written, Removed}
use Rattle.sched_plain.specs.Rows.{rows_of, living}
use Rattle.sched_plain.specs.Groups.{groups_of}

-- a row as it is kept: an incarnation, and room for further revisions of it
pub record Kept : Type 0 where
  pub row : Row
  pub room : ℕ

-- the rows that are kept
abbrev pub rows_in : List Kept → List Row
rows_in kept = map (λ k. k.row) kept

-- the room for further revisions of each
abbrev pub rooms_in : List Kept → List ℕ
rooms_in kept = map (λ k. k.room) kept

-- the schedules alone: their rows, the moment of their latest change, and room for so many new rows
pub record Roll : Type 0 where
  pub rows : List Kept
  pub latest : ℕ
  pub room : ℕ

-- the row of an incarnation lives
abbrev pub lives_at : List Row → ℕ → Bool
lives_at rows inc = some_pass (λ row. row.lives) (nth rows inc)

-- room for so many new rows, for revisions of each row, and for so many new groups
pub record Room : Type 0 where
  pub rows : ℕ
  pub revisions : List ℕ
  pub groups : ℕ

-- the rows of all incarnations, the groups in the order of their creation, and the moment of the latest change
pub record State : Type 0 where
  pub rows : List Row
  pub groups : List GroupRow
  pub latest : ℕ
  pub room : Room

-- the moment of the latest of the accepted changes
abbrev pub latest_of : List Accepted → ℕ
latest_of [] = 0
latest_of (Written at write ∷ before) = at
latest_of (Removed at inc ∷ before) = at

-- the rows stand for a list of accepted changes
pub record Stands (s : State) (changes : List Accepted) : Type 0 where
  pub rows : s.rows ≡ rows_of changes
  pub groups : s.groups ≡ groups_of changes
  pub latest : s.latest ≡ latest_of changes

-- there is room for a further revision, where there is a row to be revised
abbrev pub IsRoomy : Option ℕ → Type 0
IsRoomy None = Unit {0}
IsRoomy (Some room) = 1 ≤ room

-- room for what a write adds: a row, a revision of the schedule that it names, or a group
abbrev pub HasRoom : State → Write → Type 0
HasRoom s (writes.CreateSchedule group name token content) = 1 ≤ s.room.rows
HasRoom s (writes.UpdateSchedule group name token content) = IsRoomy (option_and_then (nth s.room.revisions) (living s.rows group name))
HasRoom s (writes.CreateGroup name token) = 1 ≤ s.room.groups
HasRoom s write = Unit {0}
