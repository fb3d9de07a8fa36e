-- The time of an instant in UTC, as text (ISO 8601, RFC 3339).
use Rattle.std.specs.Prelude.{ℕ, zero, suc, ◌+◌, ◌/◌, ◌%◌, nat_lt, if◌then◌else◌, List, [], ◌∷◌, ◌++◌, codes, pos}
use Rattle.jiff_core.specs.Calendar.{days_in_month}

-- a day of the Gregorian calendar; month and day count from 1
pub record Day : Type 0 where
  pub year : ℕ
  pub month : ℕ
  pub day : ℕ

-- the next day
abbrev pub day_after : Day → Day
day_after d =
    if nat_lt d.day (days_in_month (pos d.year) d.month) then record d { day = d.day + 1 }
    else (if nat_lt d.month 12 then record { year = d.year; month = d.month + 1; day = 1 }
    else record { year = d.year + 1; month = 1; day = 1 })

-- the day that comes so many days after 1970-01-01
unfoldable pub day_of : ℕ → Day
day_of zero = record { year = 1970; month = 1; day = 1 }
day_of (suc days) = day_after (day_of days)

-- a number below 100 in two digits
abbrev pub two_digits : ℕ → List ℕ
two_digits n = (48 + n / 10) ∷ (48 + n % 10) ∷ []

-- a number below 10,000 in four digits
abbrev pub four_digits : ℕ → List ℕ
four_digits n = two_digits (n / 100) ++ two_digits (n % 100)

-- a day as yyyy-mm-dd
abbrev pub day_text : Day → List ℕ
day_text d = four_digits d.year ++ codes "-" ++ two_digits d.month ++ codes "-" ++ two_digits d.day

-- a second of a day as hh:mm:ss
abbrev pub clock_text : ℕ → List ℕ
clock_text second =
    two_digits (second / 3600) ++ codes ":" ++ two_digits (second / 60 % 60) ++ codes ":" ++ two_digits (second % 60)

-- the time of an instant, in seconds since 1970-01-01T00:00:00Z, as yyyy-mm-ddThh:mm:ssZ
abbrev pub time_text : ℕ → List ℕ
time_text instant =
    day_text (day_of (instant / 86400)) ++ codes "T" ++ clock_text (instant % 86400) ++ codes "Z"
