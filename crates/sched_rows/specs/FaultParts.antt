-- The first fault of a write, part by part as the code looks for it.
use Rattle.std.specs.Prelude.{ℕ, nat_le, not, Option, is_some, is_none, List, [], ◌∷◌, length}
use Rattle.sched_plain.specs.declared.row.GroupRow.{GroupRow}
use Rattle.sched_plain.specs.declared.row.Row.{Row}
use Rattle.sched_plain.specs.declared.why.RowFault.{RowFault}
use Rattle.sched_plain.specs.declared.why.RowFault.TheVariants as faults
use Rattle.plain_words.specs.Lists.{first_some, when, same_text}
use Rattle.plain_words.specs.declared.limits.TheConstants.{MOST_SCHEDULES, MOST_INCARNATIONS, MOST_GROUPS}
use Rattle.sched_plain.specs.Rows.{living}
use Rattle.sched_plain.specs.Groups.{has_group, living_count, default_name}

-- why no further schedule may be created
abbrev pub too_many_schedules : List Row → Option RowFault
too_many_schedules rows =
    first_some (when (nat_le MOST_SCHEDULES (living_count rows)) (faults.TooMany (living_count rows))
    ∷ when (nat_le MOST_INCARNATIONS (length rows)) (faults.TooMany (length rows)) ∷ [])

-- why a schedule may not be created under a name
abbrev pub creation_fault : List Row → List GroupRow → List ℕ → List ℕ → Option RowFault
creation_fault rows groups group name =
    first_some (when (not (has_group groups group)) faults.NoGroup ∷ when (is_some (living rows group name)) faults.Exists
    ∷ when (nat_le MOST_SCHEDULES (living_count rows)) (faults.TooMany (living_count rows))
    ∷ when (nat_le MOST_INCARNATIONS (length rows)) (faults.TooMany (length rows)) ∷ [])

-- why a schedule may not be updated or deleted
abbrev pub named_fault : List Row → List GroupRow → List ℕ → List ℕ → Option RowFault
named_fault rows groups group name =
    first_some (when (not (has_group groups group)) faults.NoGroup ∷ when (is_none (living rows group name)) faults.Missing ∷ [])

-- why a group may not be created, or deleted
abbrev pub group_creation_fault : List GroupRow → List ℕ → Option RowFault
group_creation_fault groups name =
    first_some (when (has_group groups name) faults.GroupExists ∷ when (nat_le MOST_GROUPS (length groups)) (faults.TooMany (length groups)) ∷ [])

abbrev pub group_deletion_fault : List GroupRow → List ℕ → Option RowFault
group_deletion_fault groups name =
    first_some (when (same_text name default_name) faults.DefaultGroup ∷ when (not (has_group groups name)) faults.NoGroup ∷ [])
