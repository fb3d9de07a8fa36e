-- What of an incarnation is unentered, and its mark: the last moment up to which its occurrences all have entries.
use Rattle.std.specs.Prelude.{ℕ, zero, suc, ◌+◌, ◌==◌, nat_le, max, Bool, not, ◌&&◌, if◌then◌else◌, Option, Some, None, List, length}
use Rattle.std.specs.List.{filter}
use Rattle.sched_plain.specs.declared.row.Row.{Row}
use Rattle.sched_plain.specs.declared.step.Pair.{Pair}
use Rattle.sched_plain.specs.declared.step.Step.TheVariants as steps
use Rattle.sched_plain.specs.declared.write.Write.{Write}
use Rattle.sched_plain.specs.declared.write.Write.TheVariants as writes
use Rattle.sched_plain.specs.Base.{floor_in, above}
use Rattle.sched_plain.specs.History.{History, beginning, based, ◌upon◌}
use Rattle.plain_words.specs.Ids.{shard_of}
use Rattle.plain_words.specs.Lists.{nth, last}
use Rattle.sched_plain.specs.Changes.{changes_of}
use Rattle.sched_plain.specs.Rows.{touches, deed_of, rows_of}
use Rattle.sched_plain.specs.Items.{items}
use Rattle.expressions.specs.Calendar.{Calendar}
use Rattle.sched_plain.specs.Occurrences.{occ_below}
use Rattle.sched_plain.specs.Ledger.{ledger_of}
use Rattle.sched_plain.specs.Entries.{entries, is_paired}

-- the instants that no pair has
abbrev pub without_pair : List Pair → List ℕ → List ℕ
without_pair pairs instants = filter (λ instant. not (is_paired pairs instant)) instants

-- the first instant of an incarnation that can be unentered: the one above its floor, 0 where it has none
abbrev pub above_floor : History → ℕ → ℕ
above_floor beginning inc = 0
above_floor (based b kept) inc = above (floor_in b.floors inc)
above_floor (s upon h) inc = above_floor h inc

-- the occurrences of an incarnation above its floor and up to a moment that have no entry
abbrev pub unentered : Calendar → History → ℕ → ℕ → List ℕ
unentered c h inc t =
    without_pair (entries (ledger_of h) inc) (filter (nat_le (above_floor h inc)) (occ_below c (items h inc) (t + 1)))

-- the first moment that the entries do not reach, after a write that may touch the incarnation with this row
abbrev pub cover_written : ℕ → Write → Option Row → ℕ → ℕ
cover_written at write None old = old
cover_written at write (Some row) old = if touches (deed_of write row) then max old (at + 1) else old

-- the same of a new incarnation: its creation
abbrev pub cover_born : ℕ → Write → ℕ → ℕ
cover_born at (writes.CreateSchedule group name token content) old = at
cover_born at write old = old

-- the same after these pairs were entered
abbrev pub cover_entered : Option Pair → ℕ → ℕ
cover_entered None old = old
cover_entered (Some pair) old = max old (pair.instant + 1)

-- the first moment that the entries of an incarnation do not reach, 0 where it has no mark
abbrev pub cover : History → ℕ → ℕ
cover beginning inc = 0
cover (based b kept) inc = max (cover kept inc) (above (floor_in b.floors inc))
cover (steps.Change at write upon h) inc = let rows = rows_of (changes_of h) in
    if inc == length rows + 1 then cover_born at.0 write (cover h inc) else cover_written at.0 write (nth rows inc) (cover h inc)
cover (steps.Enter at of pairs upon h) inc = if inc == of then cover_entered (last {A = Pair} pairs) (cover h inc) else cover h inc
cover (steps.Swept at shard upon h) inc = if shard == shard_of inc then max (cover h inc) (at.0 + 1) else cover h inc
cover (s upon h) inc = cover h inc

-- the moment before this one, if there is one
abbrev pub one_before : ℕ → Option ℕ
one_before zero = None
one_before (suc n) = Some n

-- the incarnation was created
abbrev pub is_created : History → ℕ → Bool
is_created h inc = nat_le 1 inc && nat_le inc (length (rows_of (changes_of h)))

-- the mark of an incarnation: the last of its creation moment minus one, its floor, its last entered instant, its
-- last change after the creation, and the last Swept of its shard since the creation
abbrev pub mark : History → ℕ → Option ℕ
mark h inc = if is_created h inc then one_before (cover h inc) else None
