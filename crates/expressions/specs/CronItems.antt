-- The items of a cron's fields: the table of their spellings, what each means, and which numbers are in range.
use Rattle.std.specs.Prelude.{ℕ, zero, suc, ◌+◌, ◌-◌, ◌^◌, ◌%◌, ◌==◌, nat_le, Bool, true, false, ◌&&◌, if◌then◌else◌, Option, Some, None, List, [], ◌∷◌, length, take, slice_index, map, codes}
use Rattle.std.specs.List.{list_any}
use Rattle.std.specs.Option.{option_map, option_and_then}
use Rattle.std.specs.Char.{to_ascii_uppercase}
use Rattle.plain_words.specs.Lists.{first_some, when}
use Rattle.plain_words.specs.Bytes.{dash, hash, slash}
use Rattle.expressions.specs.Years.{first_year, last_year}
use Rattle.expressions.specs.Pieces.{cut, same, is_number, number_of, upper}

-- the fields of a cron, in their order
pub data Field : Type 0 where
  minutes : Field
  hours : Field
  day_of_month : Field
  month : Field
  day_of_week : Field
  year : Field

-- the least value of a field
abbrev pub least : Field → ℕ
least minutes = 0
least hours = 0
least day_of_month = 1
least month = 1
least day_of_week = 1
least year = first_year

-- the greatest value of a field
abbrev pub greatest : Field → ℕ
greatest minutes = 59
greatest hours = 23
greatest day_of_month = 31
greatest month = 12
greatest day_of_week = 7
greatest year = last_year

-- the names of the months, from 1 on
abbrev pub month_names : List (List ℕ)
month_names =
    codes "JAN" ∷ codes "FEB" ∷ codes "MAR" ∷ codes "APR" ∷ codes "MAY" ∷ codes "JUN"
    ∷ codes "JUL" ∷ codes "AUG" ∷ codes "SEP" ∷ codes "OCT" ∷ codes "NOV" ∷ codes "DEC" ∷ []

-- the names of the days of the week, from 1 on
abbrev pub day_names : List (List ℕ)
day_names = codes "SUN" ∷ codes "MON" ∷ codes "TUE" ∷ codes "WED" ∷ codes "THU" ∷ codes "FRI" ∷ codes "SAT" ∷ []

-- the place of a text in a list of texts, which are counted from n on
abbrev pub place_from : ℕ → List ℕ → List (List ℕ) → Option ℕ
place_from n text [] = None
place_from n text (name ∷ names) = if same text name then Some n else place_from (n + 1) text names

-- the value that a name stands for, in any letter case
abbrev pub named : Field → List ℕ → Option ℕ
named month text = place_from 1 (upper text) month_names
named day_of_week text = place_from 1 (upper text) day_names
named field text = None

-- digits that may stand for a value: four for a year, and else one or two
abbrev pub is_value_number : Field → List ℕ → Bool
is_value_number year text = is_number 4 4 text
is_value_number field text = is_number 1 2 text

-- the value that a text spells in a field, in range or not
abbrev pub value : Field → List ℕ → Option ℕ
value field text = if is_value_number field text then Some (number_of text) else named field text

-- the step that a text spells: one to three digits
abbrev pub step : List ℕ → Option ℕ
step text = if is_number 1 3 text then Some (number_of text) else None

-- what an item means
pub data Item : Type 0 where
  -- the values from one to another in steps of a number
  values : ℕ → ℕ → ℕ → Item
  -- no rule from this field
  no_rule : Item
  -- the last day of the month
  last_day : Item
  -- Saturday, as the letter L
  saturday : Item
  -- the day from Monday to Friday closest to a day
  near_weekday : ℕ → Item
  -- the last such day of the week in the month
  last_of : ℕ → Item
  -- the day of the week, and which of them in the month
  nth_of : ℕ → ℕ → Item

-- the texts before and after the only byte c
abbrev pub halves : List (List ℕ) → Option (List ℕ × List ℕ)
halves (x ∷ y ∷ []) = Some (x, y)
halves parts = None

-- the letter behind the last such day of the month
abbrev pub letter_l : ℕ
letter_l = 76

-- the letter behind the day that a weekday is closest to
abbrev pub letter_w : ℕ
letter_w = 87

-- the text before its last byte, where that is this letter, in either case
abbrev pub before_letter : ℕ → List ℕ → Option (List ℕ)
before_letter letter text =
    if to_ascii_uppercase (slice_index text (length text - 1)) == letter then Some (take (length text - 1) text) else None

-- the spelling of an option of two
abbrev pub both : {A B C : Type 0} → (A → B → C) → Option A → Option B → Option C
both f (Some a) (Some b) = Some (f a b)
both f (Some a) None = None
both f None b = None

-- `?`
abbrev pub question_row : List ℕ → Option Item
question_row text = when (same text (codes "?")) no_rule

-- `L`, in either case
abbrev pub letter_row : Item → List ℕ → Option Item
letter_row item text = when (same (upper text) (codes "L")) item

-- `nW`, in either case
abbrev pub near_row : List ℕ → Option Item
near_row text = option_map near_weekday (option_and_then (value day_of_month) (before_letter letter_w text))

-- `nL`, in either case
abbrev pub last_row : List ℕ → Option Item
last_row text = option_map last_of (option_and_then (value day_of_week) (before_letter letter_l text))

-- n and the digit k
abbrev pub nth_parts : List ℕ × List ℕ → Option Item
nth_parts parts = both nth_of (value day_of_week parts.0) (if is_number 1 1 parts.1 then Some (number_of parts.1) else None)

-- `n#k`
abbrev pub nth_row : List ℕ → Option Item
nth_row text = option_and_then nth_parts (halves (cut hash text))

-- the rows of what stands alone
abbrev pub alone_row : Field → List ℕ → Option Item
alone_row day_of_month text = first_some (question_row text ∷ letter_row last_day text ∷ near_row text ∷ [])
alone_row day_of_week text = first_some (question_row text ∷ letter_row saturday text ∷ last_row text ∷ nth_row text ∷ [])
alone_row field text = None

-- `*` with its step
abbrev pub every_row : Field → Option ℕ → List ℕ → Option Item
every_row field by text = if same text (codes "*") then option_map (values (least field) (greatest field)) by else None

-- `a`
abbrev pub one_row : Field → List ℕ → Option Item
one_row field text = option_map (λ a. values a a 1) (value field text)

-- `a/n`
abbrev pub on_row : Field → Option ℕ → List ℕ → Option Item
on_row field by text = both (λ a n. values a (greatest field) n) (value field text) by

-- `a-b` with its step
abbrev pub range_row : Field → Option ℕ → List ℕ → List ℕ → Option Item
range_row field by x y = option_and_then (λ n. both (λ a b. values a b n) (value field x) (value field y)) by

-- a step, in the fields that have one
abbrev pub step_in : Field → List ℕ → Option ℕ
step_in day_of_week text = None
step_in field text = step text

-- the table, over a piece that is cut at its slashes, and each part at its dashes
abbrev pub row_of_parts : Field → List (List (List ℕ)) → Option Item
row_of_parts field ((x ∷ []) ∷ []) = first_some (every_row field (Some 1) x ∷ one_row field x ∷ alone_row field x ∷ [])
row_of_parts field ((x ∷ y ∷ []) ∷ []) = range_row field (Some 1) x y
row_of_parts field ((x ∷ []) ∷ (n ∷ []) ∷ []) =
    first_some (every_row field (step_in field n) x ∷ on_row field (step_in field n) x ∷ [])
row_of_parts field ((x ∷ y ∷ []) ∷ (n ∷ []) ∷ []) = range_row field (step_in field n) x y
row_of_parts field parts = None

-- the item that a piece spells in a field, its numbers in range or not
unfoldable pub row : Field → List ℕ → Option Item
row field piece = row_of_parts field (map (cut dash) (cut slash piece))

-- a value of the field
abbrev pub is_value : Field → ℕ → Bool
is_value field v = nat_le (least field) v && nat_le v (greatest field)

-- the numbers of an item are in range: values of the field, in order, a step of at least 1, a place from 1 to 5
abbrev pub is_in_range : Field → Item → Bool
is_in_range field (values from to by) = is_value field from && is_value field to && nat_le from to && nat_le 1 by
is_in_range field (near_weekday n) = is_value field n
is_in_range field (last_of n) = is_value field n
is_in_range field (nth_of n k) = is_value field n && nat_le 1 k && nat_le k 5
is_in_range field item = true

-- the item must stand alone in its field
abbrev pub stands_alone : Item → Bool
stands_alone (values from to by) = false
stands_alone item = true

-- the value is one of an item
abbrev pub contains : ℕ → Item → Bool
contains v (values from to by) = nat_le from v && nat_le v to && (((v - from) % by) == 0)
contains v saturday = v == 7
contains v item = false

-- the number whose bits below a bound are those at which the test passes
abbrev pub bits_below : (ℕ → Bool) → ℕ → ℕ
bits_below test zero = 0
bits_below test (suc n) = bits_below test n + (if test n then 2 ^ n else 0)

-- the set of some items: bit v is value v
unfoldable pub set_of : Field → List Item → ℕ
set_of field items = bits_below (λ v. list_any (contains v) items) (greatest field + 1)

-- the set of the years of some items, from a year on: bit i is year first + i
unfoldable pub years_of : ℕ → List Item → ℕ
years_of first items = bits_below (λ i. list_any (contains (first + i)) items) 128
