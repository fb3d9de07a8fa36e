-- The groups with their index by name.
use Rattle.std.specs.Prelude.{◌≡◌, ℕ, ◌≤◌, ◌-◌, nat_eq, nat_lt, if◌then◌else◌, Bool, ◌||◌, Option, Some, None, List, length}
use Rattle.std.specs.List.{starts_with}
use Rattle.plain_words.specs.Lists.{nth, some_pass}
use Rattle.plain_words.specs.declared.limits.TheConstants.{MOST_GROUPS}
use Rattle.sched_plain.specs.declared.row.GroupRow.{GroupRow}
use Rattle.sched_calls.specs.Replies.{text_before, sorted}
use Rattle.sched_rows.specs.declared.edge.Edge.{Edge}
use Rattle.sched_rows.specs.declared.edge.Edge.TheVariants as edges
use Rattle.sched_rows.specs.Order.{numbered, numbers_in, IsRising, IsPlace}

-- the groups in the order of their creation, and room for so many more
pub record Gathered : Type 0 where
  pub groups : List GroupRow
  pub room : ℕ

-- by name
abbrev pub group_before : (ℕ × GroupRow) → (ℕ × GroupRow) → Bool
group_before p q = text_before p.1.name q.1.name

abbrev pub groups_in_order : List GroupRow → List (ℕ × GroupRow)
groups_in_order groups = sorted group_before (numbered 1 groups)

-- a group comes before a name, or is not behind the names that begin with it
abbrev pub is_group_short : List ℕ → Edge → GroupRow → Bool
is_group_short name edges.Before group = text_before group.name name
is_group_short name edges.Behind group = text_before group.name name || starts_with nat_eq group.name name

-- so does the group at a place
abbrev pub group_short : List GroupRow → List ℕ → Edge → ℕ → Bool
group_short groups name edge place = some_pass (is_group_short name edge) (nth groups place)

-- a place, where the group at another was taken out
abbrev pub lowered : ℕ → ℕ → ℕ
lowered out place = if nat_lt out place then place - 1 else place

-- the index is that of the groups; no two have one name
pub record IsGrouped (groups : List GroupRow) (places : List ℕ) : Type 0 where
  pub few : length groups ≤ MOST_GROUPS
  pub names : places ≡ numbers_in (groups_in_order groups)
  pub apart : IsRising group_before (groups_in_order groups)

-- an index from which on a list behind a name may go
abbrev pub IsGroupStart : List GroupRow → List ℕ → Option (List ℕ) → ℕ → Type 0
IsGroupStart groups places None at = at ≡ 0
IsGroupStart groups places (Some last) at = IsPlace (group_short groups last edges.Before) places at
