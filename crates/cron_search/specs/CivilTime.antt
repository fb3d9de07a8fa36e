-- Civil time, as a clock and a calendar on the wall show it, in the Gregorian calendar from 1970 to 2199.
-- Days are numbered from 1970-01-01, which is 0, and seconds are counted from its midnight.
use Rattle.std.specs.Prelude.{ℕ, ◌+◌, ◌-◌, ◌%◌}
pub use Rattle.expressions.specs.CivilSeconds.{day_number, civil_second, month_length, IsCivilDate, IsCivilSecond}

-- the number of Sunday among the weekdays
abbrev pub sunday : ℕ
sunday = 1

-- the number of Saturday among the weekdays
abbrev pub saturday : ℕ
saturday = 7

-- the weekday of a day number: 1 is Sunday and 7 is Saturday, and day 0 was a Thursday
abbrev pub weekday : ℕ → ℕ
weekday number = (number + 4) % 7 + 1

-- the weekday of a day of the calendar
abbrev pub weekday_of : ℕ → ℕ → ℕ → ℕ
weekday_of year month day = weekday (day_number year month day)

-- the weekday that comes so many days after another
abbrev pub weekday_after : ℕ → ℕ → ℕ
weekday_after today days = (today + days - 1) % 7 + 1
