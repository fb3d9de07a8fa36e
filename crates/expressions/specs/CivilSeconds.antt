-- Civil seconds: which are real, their seconds since 1970, their text.
use Rattle.std.specs.Prelude.{ℕ, ◌+◌, ◌*◌, ◌/◌, ◌%◌, ◌≤◌, nat_le, nat_lt, Bool, ◌&&◌, List, [], ◌∷◌, ◌++◌, pos, unsigned_abs, codes}
use Rattle.jiff_core.specs.Calendar.{days_in_month, days_from_civil}
use Rattle.expressions.specs.declared.expression.Civil.{Civil}
use Rattle.plain_words.specs.Bytes.{digit_zero}
use Rattle.expressions.specs.Years.{first_year, last_year}

-- how many days the month has
abbrev pub month_length : ℕ → ℕ → ℕ
month_length year month = days_in_month (pos year) month

-- a real civil second of the years 1970 to 2199
abbrev pub is_civil : Civil → Bool
is_civil c =
    nat_le first_year c.year && nat_le c.year last_year && nat_le 1 c.month && nat_le c.month 12
    && nat_le 1 c.day && nat_le c.day (month_length c.year c.month)
    && nat_lt c.hour 24 && nat_lt c.minute 60 && nat_lt c.second 60

-- the calendar has this day, in a year from 1970 to 2199
pub record IsCivilDate (year month day : ℕ) : Type 0 where
  pub from_1970 : first_year ≤ year
  pub to_2199 : year ≤ last_year
  pub month_low : 1 ≤ month
  pub month_high : month ≤ 12
  pub day_low : 1 ≤ day
  pub day_high : day ≤ month_length year month

-- the calendar has this day, and the clock shows this second in it: what the test of a real civil second says
pub record IsCivilSecond (d : Civil) : Type 0 where
  pub date : IsCivilDate d.year d.month d.day
  pub hour : d.hour ≤ 23
  pub minute : d.minute ≤ 59
  pub second : d.second ≤ 59

-- how many days lie between 1 January 1970 and a date from then on
abbrev pub day_number : ℕ → ℕ → ℕ → ℕ
day_number year month day = unsigned_abs (days_from_civil (pos year) month day)

-- the seconds from midnight
abbrev pub second_of_day : Civil → ℕ
second_of_day c = c.hour * 3600 + c.minute * 60 + c.second

-- the seconds from 1970-01-01T00:00:00 to a civil second, where no clock is ever changed
abbrev pub civil_second : Civil → ℕ
civil_second c = day_number c.year c.month c.day * 86400 + second_of_day c

-- the last two digits of a number
abbrev pub two_digits : ℕ → List ℕ
two_digits n = (digit_zero + n / 10 % 10) ∷ (digit_zero + n % 10) ∷ []

-- the text of an `at`: at(yyyy-mm-ddThh:mm:ss)
abbrev pub at_text : Civil → List ℕ
at_text c =
    codes "at(" ++ two_digits (c.year / 100) ++ two_digits c.year ++ codes "-" ++ two_digits c.month ++ codes "-" ++ two_digits c.day
    ++ codes "T" ++ two_digits c.hour ++ codes ":" ++ two_digits c.minute ++ codes ":" ++ two_digits c.second ++ codes ")"
