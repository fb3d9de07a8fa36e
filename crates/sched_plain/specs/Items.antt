-- What an incarnation does when: contents, each with the zone bytes under which it is read, its anchor and the
-- span of instants that it covers. Read off the Change, Complete and Zone steps.
use Rattle.std.specs.Prelude.{ℕ, ◌+◌, ◌==◌, min, Bool, true, false, ◌&&◌, if◌then◌else◌, Option, Some, None, is_some, List, [], ◌∷◌, ◌++◌, map, length, unwrap_or}
use Rattle.expressions.specs.declared.expression.Expr.{Expr}
use Rattle.expressions.specs.declared.expression.Expr.TheVariants as exprs
use Rattle.sched_plain.specs.declared.schedule.Schedule.{Schedule}
use Rattle.sched_plain.specs.declared.write.Write.{Write}
use Rattle.sched_plain.specs.declared.write.Write.TheVariants as writes
use Rattle.sched_plain.specs.declared.row.Row.{Row}
use Rattle.sched_plain.specs.declared.step.Step.TheVariants as steps
use Rattle.sched_plain.specs.History.{History, beginning, based, ◌upon◌}
use Rattle.plain_words.specs.Moments.{last_moment}
use Rattle.plain_words.specs.Lists.{nth, some_pass}
use Rattle.sched_plain.specs.Changes.{changes_of}
use Rattle.sched_plain.specs.Rows.{Deed, Nothing, Renews, Ends, same_text, deed_of, rows_of, incs_where, current_of}
use Rattle.sched_plain.specs.Zones.{bytes_of, read_under}

-- a content, the zone bytes that it is read under (none for UTC), its anchor, and its span, both ends in it
pub record Item : Type 0 where
  pub content : Schedule
  pub bytes : Option (List ℕ)
  pub anchor : ℕ
  pub first : ℕ
  pub last : ℕ

-- an item whose span ends at a moment, where it ends no earlier
abbrev pub cut_item : ℕ → Item → Item
cut_item at item = record item { last = min at item.last }

-- the item of a content that begins at a moment; a rate counts from its StartDate, or from the creation
abbrev pub opened : Option (List ℕ) → ℕ → ℕ → Schedule → Item
opened bytes created first content =
    record { content = content; bytes = bytes; anchor = unwrap_or content.start created; first = first; last = last_moment }

-- the items of an incarnation after a deed
abbrev pub items_done : History → ℕ → ℕ → Deed → List Item → List Item
items_done h at created Nothing items = items
items_done h at created (Renews content) items =
    map (cut_item at) items ++ opened (read_under h content.zone) created (at + 1) content ∷ []
items_done h at created Ends items = map (cut_item at) items

-- the items of an incarnation with this row after a write
abbrev pub items_written : History → ℕ → Write → Option Row → List Item → List Item
items_written h at write None items = items
items_written h at write (Some row) items = items_done h at row.created.0 (deed_of write row) items

-- the items of a new incarnation
abbrev pub items_born : History → ℕ → Write → List Item
items_born h at (writes.CreateSchedule group name token content) = opened (read_under h content.zone) at at content ∷ []
items_born h at write = []

-- a cron
abbrev pub is_cron : Expr → Bool
is_cron (exprs.At civil) = false
is_cron (exprs.Rate count unit) = false
is_cron (exprs.Cron sets) = true

-- new bytes of a zone touch a living schedule whose current content is a cron in that zone
abbrev pub is_rezoned : List ℕ → Row → Bool
is_rezoned name row = some_pass (λ content. is_cron content.expr && same_text name content.zone) (current_of row)

-- the incarnations that new bytes of a zone touch: none where the name is new
abbrev pub rezoned_by : History → List ℕ → List ℕ
rezoned_by h name = if is_some (bytes_of h name) then incs_where (is_rezoned name) (rows_of (changes_of h)) else []

-- the items of an incarnation after new bytes: its current content goes on under them
abbrev pub items_rezoned : ℕ → List ℕ → ℕ → Option Schedule → List Item → List Item
items_rezoned at bytes created None items = items
items_rezoned at bytes created (Some content) items =
    map (cut_item at) items ++ opened (Some bytes) created (at + 1) content ∷ []

-- the items of an incarnation with this row after a Zone step
abbrev pub items_zoned : Bool → ℕ → List ℕ → List ℕ → Option Row → List Item → List Item
items_zoned known at name bytes None items = items
items_zoned known at name bytes (Some row) items =
    if known && is_rezoned name row then items_rezoned at bytes row.created.0 (current_of row) items else items

-- the items of an incarnation, in the order of their spans
abbrev pub items : History → ℕ → List Item
items beginning inc = []
items (based b kept) inc = items kept inc
items (steps.Change at write upon h) inc = let rows = rows_of (changes_of h) in
    if inc == length rows + 1 then items_born h at.0 write else items_written h at.0 write (nth rows inc) (items h inc)
items (steps.Complete at removed upon h) inc = if inc == removed then map (cut_item at.0) (items h inc) else items h inc
items (steps.Zone at name bytes upon h) inc =
    items_zoned (is_some (bytes_of h name)) at.0 name bytes (nth (rows_of (changes_of h)) inc) (items h inc)
items (s upon h) inc = items h inc
