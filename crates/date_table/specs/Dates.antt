-- Dates: when something comes, if it comes at all. A date is a number of seconds.
use Rattle.std.specs.Prelude.{ℕ, ◌<◌, nat_le, Bool, false, Option, Some, None, List}
use Rattle.std.specs.Option.{option_and_then}
use Rattle.plain_words.specs.Lists.{nth}

-- the greatest number stands for never: it is no date
abbrev pub never : ℕ
never = 18446744073709551615

-- the number is none that stands for never
abbrev pub IsDate : Option ℕ → Type 0
IsDate None = Unit {0}
IsDate (Some date) = date < never

-- the date has come at a moment
abbrev pub has_come : ℕ → Option ℕ → Bool
has_come t None = false
has_come t (Some date) = nat_le date t

-- the date at a place of a list, from 1: none where there is no such place
abbrev pub date_at : List (Option ℕ) → ℕ → Option ℕ
date_at dates place = option_and_then (λ date. date) (nth dates place)
