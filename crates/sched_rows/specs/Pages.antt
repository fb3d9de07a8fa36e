-- The rows of a list, as the index by name gives them.
use Rattle.std.specs.Prelude.{ℕ, nat_eq, ◌&&◌, Bool, Option, List}
use Rattle.std.specs.List.{flat_map, starts_with}
use Rattle.std.specs.Option.{option_and_then, option_to_list}
use Rattle.plain_words.specs.Lists.{nth, when}
use Rattle.sched_plain.specs.declared.row.Row.{Row}
use Rattle.sched_plain.specs.declared.row.GroupRow.{GroupRow}
use Rattle.sched_plain.specs.Rows.{current_of}
use Rattle.sched_calls.specs.declared.page.ListRow.{ListRow}
use Rattle.sched_rows.specs.State.{Kept}
use Rattle.sched_calls.specs.Replies.{list_row, text_before, where_asked}

-- the row of a list for a schedule, where it lives and is asked for
abbrev pub shown : (ListRow → Bool) → Row → Option ListRow
shown asked row = option_and_then (λ content. when (asked (list_row row content)) (list_row row content)) (current_of row)

-- and for the incarnation of a number
abbrev pub shown_at : (ListRow → Bool) → List Kept → ℕ → Option ListRow
shown_at asked kept number = option_and_then (λ k. shown asked k.row) (nth kept number)

-- those of some numbers
abbrev pub shown_of : (ListRow → Bool) → List Kept → List ℕ → List ListRow
shown_of asked kept numbers = flat_map (λ number. option_to_list (shown_at asked kept number)) numbers

-- a group that is asked for, at a place
abbrev pub group_shown_at : (GroupRow → Bool) → List GroupRow → ℕ → Option GroupRow
group_shown_at asked groups place = option_and_then (λ group. when (asked group) group) (nth groups place)

abbrev pub groups_shown_of : (GroupRow → Bool) → List GroupRow → List ℕ → List GroupRow
groups_shown_of asked groups places = flat_map (λ place. option_to_list (group_shown_at asked groups place)) places

-- a group that a list asks for
abbrev pub is_listed_group : List ℕ → Option (List ℕ) → GroupRow → Bool
is_listed_group prefix after group = starts_with nat_eq group.name prefix && where_asked (λ last. text_before last group.name) after
