-- Groups of schedules, read off the accepted changes, in the order of their creation. The group `default` is
-- there from the start. And what makes a write faulty over the schedules and groups that are there.
use Rattle.std.specs.Prelude.{ℕ, nat_le, Bool, not, Option, is_some, is_none, List, [], ◌∷◌, ◌++◌, length, codes}
use Rattle.std.specs.List.{filter, list_any}
use Rattle.sched_plain.specs.declared.write.Write.{Write}
use Rattle.sched_plain.specs.declared.write.Write.TheVariants as writes
use Rattle.sched_plain.specs.declared.row.Row.{Row}
use Rattle.sched_plain.specs.declared.row.GroupRow.{GroupRow}
use Rattle.sched_plain.specs.declared.why.RowFault.{RowFault}
use Rattle.sched_plain.specs.declared.why.RowFault.TheVariants as faults
use Rattle.plain_words.specs.Moments.{moment_of}
use Rattle.plain_words.specs.Lists.{first_some, when}
use Rattle.sched_plain.specs.Changes.{Accepted, Written, Removed}
use Rattle.sched_plain.specs.Rows.{same_text, living}
use Rattle.plain_words.specs.declared.limits.TheConstants.{MOST_SCHEDULES, MOST_INCARNATIONS, MOST_GROUPS}

-- the name of the group that is there from the start
abbrev pub default_name : List ℕ
default_name = codes "default"

-- a group of this name
abbrev pub is_named : List ℕ → GroupRow → Bool
is_named name group = same_text name group.name

-- the groups after one more write
abbrev pub groups_after : ℕ → Write → List GroupRow → List GroupRow
groups_after at (writes.CreateGroup name token) groups = groups ++ record { name = name; created = moment_of at } ∷ []
groups_after at (writes.DeleteGroup name token) groups = filter (λ group. not (is_named name group)) groups
groups_after at write groups = groups

-- the groups that are there
abbrev pub groups_of : List Accepted → List GroupRow
groups_of [] = record { name = default_name; created = moment_of 0 } ∷ []
groups_of (Written at write ∷ before) = groups_after at write (groups_of before)
groups_of (Removed at inc ∷ before) = groups_of before

-- a group of this name is there
abbrev pub has_group : List GroupRow → List ℕ → Bool
has_group groups name = list_any (is_named name) groups

-- how many schedules live
abbrev pub living_count : List Row → ℕ
living_count rows = length (filter (λ row. row.lives) rows)

-- the first fault of a write over these schedules and groups
abbrev pub row_fault : List Row → List GroupRow → Write → Option RowFault
row_fault rows groups (writes.CreateSchedule group name token content) =
    first_some (
    when (not (has_group groups group)) faults.NoGroup
    ∷ when (is_some (living rows group name)) faults.Exists
    ∷ when (nat_le MOST_SCHEDULES (living_count rows)) (faults.TooMany (living_count rows))
    ∷ when (nat_le MOST_INCARNATIONS (length rows)) (faults.TooMany (length rows))
    ∷ [])
row_fault rows groups (writes.UpdateSchedule group name token content) =
    first_some (when (not (has_group groups group)) faults.NoGroup ∷ when (is_none (living rows group name)) faults.Missing ∷ [])
row_fault rows groups (writes.DeleteSchedule group name token) =
    first_some (when (not (has_group groups group)) faults.NoGroup ∷ when (is_none (living rows group name)) faults.Missing ∷ [])
row_fault rows groups (writes.CreateGroup name token) =
    first_some (when (has_group groups name) faults.GroupExists ∷ when (nat_le MOST_GROUPS (length groups)) (faults.TooMany (length groups)) ∷ [])
row_fault rows groups (writes.DeleteGroup name token) =
    first_some (when (same_text name default_name) faults.DefaultGroup ∷ when (not (has_group groups name)) faults.NoGroup ∷ [])
