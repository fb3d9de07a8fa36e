-- Why a text spells no expression: the first row of the table of faults, in its order, and the place of it.
use Rattle.std.specs.Prelude.{ℕ, ◌+◌, ◌==◌, nat_le, nat_lt, Bool, false, not, ◌&&◌, ◌||◌, if◌then◌else◌, Option, Some, None, List, [], ◌∷◌, ◌++◌, length, take, drop, map, codes}
use Rattle.std.specs.List.{list_any}
use Rattle.expressions.specs.declared.expression.Unit.{Unit as RateUnit}
use Rattle.plain_words.specs.Lists.{first_some, when}
use Rattle.plain_words.specs.Bytes.{comma, digit_zero}
use Rattle.expressions.specs.Years.{first_year, last_year}
use Rattle.expressions.specs.CivilSeconds.{month_length}
use Rattle.expressions.specs.Pieces.{Piece, cut, placed, placed_words, has_bare_ends, same, inside, is_digit, number_of}
use Rattle.expressions.specs.CronItems as cron
use Rattle.expressions.specs.CronItems.{Field, Item, row, is_in_range, stands_alone}
use Rattle.expressions.specs.Spelling.{count_of, unit_of}

-- a fault: its number, and its place as an offset in bytes from the text's first byte
pub record Fault : Type 0 where
  pub number : ℕ
  pub at : ℕ

-- a fault of this number at this place
abbrev pub fault_at : ℕ → ℕ → Fault
fault_at number place = record { number = number; at = place }

-- fault 1, Shape: the text has none of the three shapes
abbrev pub shape_fault : Option Fault
shape_fault = Some (fault_at 1 0)

-- each digit as 0, any other byte as it is
abbrev pub masked : ℕ → ℕ
masked b = if is_digit b then digit_zero else b

-- the number of so many digits at a place of what an `at` encloses
abbrev pub group : List ℕ → ℕ → ℕ → ℕ
group inner place digits = number_of (take digits (drop place inner))

-- fault 3, OutOfRange, of a group of an `at`, behind the three bytes of its opening
abbrev pub group_fault : ℕ → Bool → Option Fault
group_fault place fits = when (not fits) (fault_at 3 (3 + place))

-- the faults of the six groups of an `at`
abbrev pub groups_fault : List ℕ → Option Fault
groups_fault inner = first_some (
    group_fault 0 (nat_le first_year (group inner 0 4) && nat_le (group inner 0 4) last_year)
    ∷ group_fault 5 (nat_le 1 (group inner 5 2) && nat_le (group inner 5 2) 12)
    ∷ group_fault 8 (nat_le 1 (group inner 8 2) && nat_le (group inner 8 2) (month_length (group inner 0 4) (group inner 5 2)))
    ∷ group_fault 11 (nat_lt (group inner 11 2) 24)
    ∷ group_fault 14 (nat_lt (group inner 14 2) 60)
    ∷ group_fault 17 (nat_lt (group inner 17 2) 60)
    ∷ [])

-- the fault of what an `at` encloses
abbrev pub at_fault : List ℕ → Option Fault
at_fault inner = if same (map masked inner) (codes "0000-00-00T00:00:00") then groups_fault inner else shape_fault

-- fault 2, BadNumber, and fault 3 for a count of 0
abbrev pub count_fault : ℕ → Option ℕ → Option Fault
count_fault place None = Some (fault_at 2 place)
count_fault place (Some count) = when (count == 0) (fault_at 3 place)

-- fault 2 for what is no unit
abbrev pub unit_fault : ℕ → Option RateUnit → Option Fault
unit_fault place None = Some (fault_at 2 place)
unit_fault place (Some unit) = None

-- the fault of the words of a rate
abbrev pub rate_fault : List Piece → Option Fault
rate_fault (value ∷ name ∷ []) =
    first_some (count_fault value.place (count_of value.text) ∷ unit_fault name.place (unit_of name.text) ∷ [])
rate_fault other = shape_fault

-- fault 2 for a piece that is no row of the field's item table, fault 3 for numbers out of range
abbrev pub item_fault : Field → ℕ → Option Item → Option Fault
item_fault field place None = Some (fault_at 2 place)
item_fault field place (Some item) = when (not (is_in_range field item)) (fault_at 3 place)

-- the faults of the items of a field, one for each piece
abbrev pub item_faults : Field → List Piece → List (Option Fault)
item_faults field pieces = map (λ piece. item_fault field piece.place (row field piece.text)) pieces

-- a piece whose item must stand alone
abbrev pub is_alone : Option Item → Bool
is_alone None = false
is_alone (Some item) = stands_alone item

-- fault 4, BadMix: a field of two or more items has one that must stand alone
abbrev pub mix_fault : Field → ℕ → List Piece → Option Fault
mix_fault field place pieces =
    when (nat_le 2 (length pieces) && list_any (λ piece. is_alone (row field piece.text)) pieces) (fault_at 4 place)

-- the fault of a field: of its items from left to right, and then of their mix
abbrev pub field_fault : Field → Piece → Option Fault
field_fault field word =
    let pieces = placed word.place (cut comma word.text) in
    first_some (item_faults field pieces ++ mix_fault field word.place pieces ∷ [])

-- the word is `?`
abbrev pub is_question : Piece → Bool
is_question word = same word.text (codes "?")

-- fault 5, BothDays: neither day field is `?`; and then fault 6, NoDays: both are
abbrev pub days_fault : Piece → Piece → Option Fault
days_fault days week = first_some (
    when (not (is_question days || is_question week)) (fault_at 5 week.place)
    ∷ when (is_question days && is_question week) (fault_at 6 week.place)
    ∷ [])

-- the fault of the words of a cron
abbrev pub cron_fault : List Piece → Option Fault
cron_fault (minutes ∷ hours ∷ days ∷ months ∷ week ∷ years ∷ []) = first_some (
    field_fault cron.minutes minutes ∷ field_fault cron.hours hours ∷ field_fault cron.day_of_month days
    ∷ field_fault cron.month months ∷ field_fault cron.day_of_week week ∷ field_fault cron.year years
    ∷ days_fault days week ∷ [])
cron_fault other = shape_fault

-- the fault by the words of what is enclosed, where no space is at its ends
abbrev pub words_fault : (List Piece → Option Fault) → ℕ → List ℕ → Option Fault
words_fault faults opening inner = if has_bare_ends inner then faults (placed_words opening inner) else shape_fault

-- the fault of a text by what it encloses as an `at`, as a rate and as a cron
abbrev pub fault_of_form : Option (List ℕ) → Option (List ℕ) → Option (List ℕ) → Option Fault
fault_of_form (Some inner) rate cron = at_fault inner
fault_of_form None (Some inner) cron = words_fault rate_fault 5 inner
fault_of_form None None (Some inner) = words_fault cron_fault 5 inner
fault_of_form None None None = shape_fault

-- the first fault of a text, if it has one
unfoldable pub fault : List ℕ → Option Fault
fault text = fault_of_form (inside (codes "at(") text) (inside (codes "rate(") text) (inside (codes "cron(") text)
