-- The entries of one incarnation as its lane keeps them, and what is looked up in them.
use Rattle.std.specs.Prelude.{◌≡◌, ℕ, ◌≤◌, ◌<◌, ◌==◌, ◌≢◌, if◌then◌else◌, Option, Some, None, is_none, List, [], map, length, slice_index, Bool}
use Rattle.std.specs.List.{find, filter, flat_map, All}
use Rattle.std.specs.Option.{option_map, option_to_list}
use Rattle.sched_plain.specs.declared.standing.Standing.{Standing}
use Rattle.sched_plain.specs.Standing.{standing_of}
use Rattle.sched_plain.specs.declared.entry.Attempt.{Attempt}
use Rattle.sched_plain.specs.declared.entry.Entry.{Entry}
use Rattle.sched_plain.specs.declared.entry.Filed.{Filed}
use Rattle.sched_plain.specs.declared.step.Pair.{Pair}
use Rattle.sched_plain.specs.Entries.{changed_if, on_entry, decided_as, is_open, instants_of}
use Rattle.sched_plain.specs.declared.outcome.Outcome.TheVariants as outcomes
use Rattle.policy_rules.specs.LastAttempt.{last_at}
use Rattle.policy_rules.specs.declared.standings.TheConstants.{LAST_CHOSEN}
use Rattle.entry_lines.specs.Rows.{Row}

abbrev pub instants_in : List Row → List ℕ
instants_in rows = map {A = Row} (λ row. row.instant) rows

-- the entry at an instant
abbrev pub row_at : List Row → ℕ → Option Row
row_at rows instant = find {X = Row} (λ row. instant == row.instant) rows

-- what is filed in it
abbrev pub filed_in_row : Option Row → Option Filed
filed_in_row row = option_map {T = Row} (λ row. row.filed) row

abbrev pub filed_at : List Row → ℕ → Option Filed
filed_at rows instant = filed_in_row (row_at rows instant)

-- its attempts, none where it is not there
abbrev pub attempts_in_row : Option Row → List Attempt
attempts_in_row None = []
attempts_in_row (Some row) = row.attempts

abbrev pub attempts_at : List Row → ℕ → List Attempt
attempts_at rows instant = attempts_in_row (row_at rows instant)

-- its instant and chosen moment
abbrev pub pair_of : Row → Pair
pair_of row = record { instant = row.instant; chosen = row.filed.entry.chosen }

abbrev pub pairs_of : List Row → List Pair
pairs_of rows = map pair_of rows

-- the instants rise
abbrev pub IsRising : List Row → Type 0
IsRising rows = (i j : ℕ) → i < j → j < length rows → slice_index (instants_in rows) i < slice_index (instants_in rows) j

-- the entry at an instant stands at this place
pub record IsPlace (rows : List Row) (instant place : ℕ) : Type 0 where
  pub in_range : place < length rows
  pub here : slice_index (instants_in rows) place ≡ instant
  pub before : (j : ℕ) → j < place → slice_index (instants_in rows) j ≢ instant

-- the entries before this place are before the instant, and no other is
pub record IsCut (rows : List Row) (instant place : ℕ) : Type 0 where
  pub within : place ≤ length rows
  pub below : (j : ℕ) → j < place → slice_index (instants_in rows) j < instant
  pub above : (j : ℕ) → place ≤ j → j < length rows → instant ≤ slice_index (instants_in rows) j

-- the entries all come before an instant
abbrev pub IsBehind : List Row → ℕ → Type 0
IsBehind rows instant = (j : ℕ) → j < length rows → slice_index (instants_in rows) j < instant

-- numbers that the sums of a standing have room for
pub record IsSmallFiled (filed : Filed) : Type 0 where
  pub chosen : filed.entry.chosen ≤ LAST_CHOSEN
  pub last : last_at filed.entry.last ≤ LAST_CHOSEN
  pub retries : filed.policy.retries ≤ 255

abbrev pub IsSmallRow : Row → Type 0
IsSmallRow row = IsSmallFiled row.filed

-- a lane's entries rise, and their numbers are small
pub record IsLane (rows : List Row) : Type 0 where
  pub rising : IsRising rows
  pub small : All IsSmallRow rows

-- the entry at an instant is changed, and nothing else
pub record Changes (old new : List Row) (instant : ℕ) (change : Entry → Entry) (grow : List Attempt → List Attempt) : Type 0 where
  pub filed : (k : ℕ) → filed_at new k ≡ changed_if (k == instant) change (filed_at old k)
  pub attempts : (k : ℕ) → attempts_at new k ≡ (if k == instant then grow (attempts_at old k) else attempts_at old k)
  pub pairs : pairs_of new ≡ pairs_of old

-- the entry once it is cancelled
abbrev pub cancelled_row : Row → Row
cancelled_row row = record row { filed = on_entry (decided_as outcomes.Cancelled) row.filed }

-- pairs that may be entered behind others: they come after those, they rise, and are chosen at moments of the calendar
pub record IsEntrance (old new : List Pair) : Type 0 where
  pub above : (i j : ℕ) → i < length old → j < length new → slice_index (instants_of old) i < slice_index (instants_of new) j
  pub rising : (i j : ℕ) → i < j → j < length new → slice_index (instants_of new) i < slice_index (instants_of new) j
  pub small : All {X = Pair} (λ pair. pair.chosen ≤ LAST_CHOSEN) new

-- an entry that is not decided
abbrev pub is_open_row : Row → Bool
is_open_row row = is_none row.filed.entry.outcome

-- the standings of all entries at a moment, in their order
abbrev pub standings_in : ℕ → List Row → List Standing
standings_in now rows = map {A = Row} (λ row. standing_of row.filed now) rows

-- how many entries are not decided, as the definition counts them
abbrev pub open_in : List Row → ℕ
open_in rows = length (filter (λ k. is_open (filed_at rows k)) (instants_of (pairs_of rows)))

-- the standings at a moment, as the definition finds them
abbrev pub standings_looked : ℕ → List Row → List Standing
standings_looked now rows =
    flat_map {X = Pair} (λ pair. option_to_list (option_map (λ f. standing_of f now) (filed_at rows pair.instant))) (pairs_of rows)

-- no number of a list is above this one, or there is none
abbrev pub IsTop : List ℕ → Option ℕ → Type 0
IsTop numbers None = numbers ≡ []
IsTop numbers (Some top) = (j : ℕ) → j < length numbers → slice_index numbers j ≤ top

-- a number is above this one, if there is one
abbrev pub IsAbove : Option ℕ → ℕ → Type 0
IsAbove None n = Unit {0}
IsAbove (Some top) n = top < n
