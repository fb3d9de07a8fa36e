-- The indexes of what lives: the numbers of the living in their order, and the same by group and name; and the
-- places of the groups by name.
use Rattle.std.specs.Prelude.{◌≡◌, ℕ, ◌≤◌, nat_eq, Bool, ◌&&◌, ◌||◌, Option, Some, None, List, length}
use Rattle.std.specs.List.{filter, starts_with}
use Rattle.sched_plain.specs.declared.row.Row.{Row}
use Rattle.sched_calls.specs.Replies.{name_before, sorted}
use Rattle.plain_words.specs.declared.limits.TheConstants.{MOST_INCARNATIONS}
use Rattle.plain_words.specs.Lists.{nth, some_pass, same_text}
use Rattle.sched_rows.specs.State.{Kept}
use Rattle.sched_rows.specs.declared.edge.Edge.{Edge}
use Rattle.sched_rows.specs.declared.edge.Edge.TheVariants as edges
use Rattle.sched_rows.specs.Order.{numbered, numbers_in, IsRising, IsPlace}
use Rattle.sched_rows.specs.Spans.{AllSpanned}

-- a row is one of a group, with a name that begins with a prefix
abbrev pub is_within : List ℕ → List ℕ → Row → Bool
is_within group prefix row = same_text group row.group && starts_with nat_eq row.name prefix

-- a row comes before a name in a group, or is not behind the names that begin with it
abbrev pub is_short_of : List ℕ → List ℕ → Edge → Row → Bool
is_short_of group name edges.Before row = name_before row.group row.name group name
is_short_of group name edges.Behind row = name_before row.group row.name group name || is_within group name row

-- so does the row of a number
abbrev pub comes_short : List Kept → List ℕ → List ℕ → Edge → ℕ → Bool
comes_short kept group name edge number = some_pass (λ k. is_short_of group name edge k.row) (nth kept number)

-- the living rows with their numbers
abbrev pub living_rows : List Row → List (ℕ × Row)
living_rows rows = filter (λ p. p.1.lives) (numbered 1 rows)

-- by group, then by name
abbrev pub row_before : (ℕ × Row) → (ℕ × Row) → Bool
row_before p q = name_before p.1.group p.1.name q.1.group q.1.name

-- the living rows by group and name
abbrev pub in_order : List Row → List (ℕ × Row)
in_order rows = sorted row_before (living_rows rows)

-- a row has a group and a name
abbrev pub has_names : List ℕ → List ℕ → Row → Bool
has_names group name row = same_text group row.group && same_text name row.name

-- so has the row of a number
abbrev pub is_called : List Kept → List ℕ → List ℕ → ℕ → Bool
is_called kept group name number = some_pass (λ k. has_names group name k.row) (nth kept number)

-- the index by name is that of the rows; no two living rows have one name
pub record IsByName (rows : List Row) (numbers : List ℕ) : Type 0 where
  pub names : numbers ≡ numbers_in (in_order rows)
  pub apart : IsRising row_before (in_order rows)

-- the two indexes are those of the rows, and all spans but the last of a row have ended
pub record IsFiled (rows : List Row) (numbers names : List ℕ) (latest : ℕ) : Type 0 where
  pub few : length rows ≤ MOST_INCARNATIONS
  pub by_number : numbers ≡ numbers_in (living_rows rows)
  pub by_name : IsByName rows names
  pub spans : AllSpanned latest rows

-- a place from which on a list behind a name may go: the place of that name, or the first one where none is given
abbrev pub IsStart : List Kept → List ℕ → Option (List ℕ × List ℕ) → ℕ → Type 0
IsStart kept numbers None at = at ≡ 0
IsStart kept numbers (Some last) at = IsPlace (comes_short kept last.0 last.1 edges.Before) numbers at

-- the place at which the names of a group that begin with a prefix begin, or end; where no group is named, the first place,
-- or the one behind the last
abbrev pub IsEdge : List Kept → List ℕ → Option (List ℕ) → List ℕ → Edge → ℕ → Type 0
IsEdge kept numbers None prefix edges.Before at = at ≡ 0
IsEdge kept numbers None prefix edges.Behind at = at ≡ length numbers
IsEdge kept numbers (Some group) prefix edge at = IsPlace (comes_short kept group prefix edge) numbers at
