-- What a list of schedules asks for.
use Rattle.std.specs.Prelude.{ℕ, not, Option, Some, None, List}
use Rattle.plain_words.specs.Lists.{when}
use Rattle.sched_plain.specs.declared.row.GroupRow.{GroupRow}
use Rattle.sched_plain.specs.Groups.{has_group}

-- the group that is asked for, where it is not there
abbrev pub missing : List GroupRow → Option (List ℕ) → Option (List ℕ)
missing groups None = None
missing groups (Some group) = when (not (has_group groups group)) group
