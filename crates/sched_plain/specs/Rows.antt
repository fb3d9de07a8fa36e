-- Schedules, read off the accepted changes. Each creation of a schedule is a new incarnation, numbered from 1
-- in order; its row tells its name, when it was created and last changed, whether it lives, and its revisions.
use Rattle.std.specs.Prelude.{ℕ, ◌+◌, nat_le, min, Bool, true, false, ◌&&◌, if◌then◌else◌, Option, None, List, [], ◌∷◌, ◌++◌, map, length}
use Rattle.std.specs.List.{filter, find}
use Rattle.std.specs.Option.{option_map, option_and_then}
use Rattle.sched_plain.specs.declared.schedule.Schedule.{Schedule}
use Rattle.sched_plain.specs.declared.write.Write.{Write}
use Rattle.sched_plain.specs.declared.write.Write.TheVariants as writes
use Rattle.sched_plain.specs.declared.row.Row.{Row}
use Rattle.sched_plain.specs.declared.row.Revision.{Revision}
use Rattle.plain_words.specs.Moments.{last_moment, moment_of}
pub use Rattle.plain_words.specs.Lists.{same_text}
use Rattle.plain_words.specs.Lists.{nth, change_nth, numbers, head, last, some_pass}
use Rattle.sched_plain.specs.Changes.{Accepted, Written, Removed}

-- the living schedule of this group and name
abbrev pub is_at : List ℕ → List ℕ → Row → Bool
is_at group name row = row.lives && same_text group row.group && same_text name row.name

-- a living schedule of this group
abbrev pub is_in : List ℕ → Row → Bool
is_in group row = row.lives && same_text group row.group

-- what a write does to one incarnation: nothing, gives it a content, or ends it
pub data Deed : Type 0 where
  Nothing : Deed
  Renews : Schedule → Deed
  Ends : Deed

abbrev pub renews_if : Bool → Schedule → Deed
renews_if true content = Renews content
renews_if false content = Nothing

abbrev pub ends_if : Bool → Deed
ends_if true = Ends
ends_if false = Nothing

abbrev pub deed_of : Write → Row → Deed
deed_of (writes.CreateSchedule group name token content) row = Nothing
deed_of (writes.UpdateSchedule group name token content) row = renews_if (is_at group name row) content
deed_of (writes.DeleteSchedule group name token) row = ends_if (is_at group name row)
deed_of (writes.CreateGroup name token) row = Nothing
deed_of (writes.DeleteGroup name token) row = ends_if (is_in name row)

-- a deed that is not nothing touches its incarnation
abbrev pub touches : Deed → Bool
touches Nothing = false
touches (Renews content) = true
touches Ends = true

-- revisions whose spans end at a moment, where they end no earlier
abbrev pub cut_at : ℕ → List Revision → List Revision
cut_at at revisions = map {A = Revision} (λ revision. record revision { to = min at revision.to }) revisions

-- a content from a moment on
abbrev pub revision_from : ℕ → Schedule → Revision
revision_from from content = record { content = content; from = from; to = last_moment }

-- the row after a deed
abbrev pub done_to : ℕ → Deed → Row → Row
done_to at Nothing row = row
done_to at (Renews content) row =
    record row { changed = moment_of at; revisions = cut_at at row.revisions ++ revision_from (at + 1) content ∷ [] }
done_to at Ends row = record row { changed = moment_of at; lives = false; revisions = cut_at at row.revisions }

-- the row after the removal of a finished schedule, which is no change of it
abbrev pub removed_at : ℕ → Row → Row
removed_at at row = record row { lives = false; revisions = cut_at at row.revisions }

-- the row that a write creates
abbrev pub born : ℕ → Write → List Row
born at (writes.CreateSchedule group name token content) =
    record {
      group = group;
      name = name;
      created = moment_of at;
      changed = moment_of at;
      lives = true;
      revisions = revision_from at content ∷ [];
    } ∷ []
born at write = []

-- the rows after one more accepted change
abbrev pub rows_after : Accepted → List Row → List Row
rows_after (Written at write) rows = map (λ row. done_to at (deed_of write row) row) rows ++ born at write
rows_after (Removed at inc) rows = change_nth (removed_at at) rows inc

-- the rows of all incarnations, in the order of their numbers
abbrev pub rows_of : List Accepted → List Row
rows_of [] = []
rows_of (change ∷ before) = rows_after change (rows_of before)

-- the numbers of the incarnations whose rows pass, rising
abbrev pub incs_where : (Row → Bool) → List Row → List ℕ
incs_where test rows = filter (λ inc. some_pass test (nth rows inc)) (numbers 1 (length rows))

-- the incarnation that lives under a group and a name
abbrev pub living : List Row → List ℕ → List ℕ → Option ℕ
living rows group name = head (incs_where (is_at group name) rows)

-- the incarnations that a write touches
abbrev pub touched_by : List Row → Write → List ℕ
touched_by rows write = incs_where (λ row. touches (deed_of write row)) rows

-- the revision whose span has an instant
abbrev pub covers : ℕ → Revision → Bool
covers instant revision = nat_le revision.from instant && nat_le instant revision.to

-- the content of an incarnation at an instant
abbrev pub content_at : List Row → ℕ → ℕ → Option Schedule
content_at rows inc instant =
    option_and_then (λ row. option_map (λ revision. revision.content) (find (covers instant) row.revisions)) (nth rows inc)

-- the current content of a living schedule
abbrev pub current_of : Row → Option Schedule
current_of row = if row.lives then option_map (λ revision. revision.content) (last row.revisions) else None

abbrev pub current : List Row → ℕ → Option Schedule
current rows inc = option_and_then current_of (nth rows inc)
