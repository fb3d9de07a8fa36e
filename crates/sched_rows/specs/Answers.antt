-- What is asked of the rows, beside what the definitions of a history say already.
use Rattle.std.specs.Prelude.{ℕ, nat_lt, Bool, ◌&&◌, Option, Some, None, Result, Ok, Err, List}
use Rattle.std.specs.List.{find}
use Rattle.std.specs.Option.{option_map}
use Rattle.plain_words.specs.declared.moment.Moment.{Moment}
use Rattle.sched_plain.specs.declared.row.GroupRow.{GroupRow}
use Rattle.sched_plain.specs.declared.row.Row.{Row}
use Rattle.sched_plain.specs.declared.why.RowFault.{RowFault}
use Rattle.sched_plain.specs.declared.write.Write.{Write}
use Rattle.sched_plain.specs.Rows.{same_text, incs_where, touched_by}
use Rattle.sched_plain.specs.Groups.{is_named}
use Rattle.sched_calls.specs.Replies.{where_asked}

-- a write may be applied where it has no fault
abbrev pub unless_faulty : Option RowFault → Result (Unit {0}) RowFault
unless_faulty None = Ok tt
unless_faulty (Some fault) = Err fault

-- the moment at which a group that is there was created
abbrev pub created_at : List GroupRow → List ℕ → Option Moment
created_at groups name = option_map (λ group. group.created) (find (is_named name) groups)

-- a schedule of a group, where one is asked for; and a living one
abbrev pub is_of : Option (List ℕ) → Row → Bool
is_of group row = where_asked (λ g. same_text g row.group) group

abbrev pub lives_in : Option (List ℕ) → Row → Bool
lives_in group row = row.lives && is_of group row

-- the least of some numbers above one
abbrev pub least_above : ℕ → List ℕ → Option ℕ
least_above after incs = find (nat_lt after) incs

-- the least living incarnation above one, of a group where one is asked for
abbrev pub next_living : List Row → Option (List ℕ) → ℕ → Option ℕ
next_living rows group after = least_above after (incs_where (lives_in group) rows)

-- the least incarnation above one that a write touches
abbrev pub next_touched : List Row → Write → ℕ → Option ℕ
next_touched rows write after = least_above after (touched_by rows write)
