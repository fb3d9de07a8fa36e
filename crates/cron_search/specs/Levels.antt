-- The levels of the search: years, days of a month, days, times of day and minutes, each with the
-- place of a thing among all of its kind.
use Rattle.std.specs.Prelude.{◌≡◌, ℕ, ◌+◌, ◌*◌, ◌≤◌, ◌<◌, IsTrue}
use Rattle.expressions.specs.declared.expression.Civil.{Civil}
use Rattle.expressions.specs.declared.expression.CronSets.{CronSets}
use Rattle.expressions.specs.declared.expression.DayRule.{DayRule}
use Rattle.expressions.specs.Years.{first_year, last_year}
use Rattle.cron_search.specs.declared.date.Date.{Date}
use Rattle.cron_search.specs.declared.time.TimeOfDay.{TimeOfDay}
use Rattle.cron_search.specs.CivilTime.{IsCivilDate}
use Rattle.cron_search.specs.Fit.{has_value, has_year, fits_day, fits_date, fits_time}

-- a number is its own place
abbrev pub itself : ℕ → ℕ
itself n = n

-- a value of the set, below the end of its field
pub record IsValue (set end value : ℕ) : Type 0 where
  pub below : value < end
  pub has : IsTrue (has_value set value)

-- an allowed year
pub record IsFittingYear (sets : CronSets) (year : ℕ) : Type 0 where
  pub to_2199 : year ≤ last_year
  pub has : IsTrue (has_year sets year)

-- a day of that month that the rule allows
pub record IsFittingDay (rule : DayRule) (year month day : ℕ) : Type 0 where
  pub real : IsCivilDate year month day
  pub fits : IsTrue (fits_day rule year month day)

-- an allowed day
pub record IsFittingDate (sets : CronSets) (d : Date) : Type 0 where
  pub real : IsCivilDate d.year d.month d.day
  pub fits : IsTrue (fits_date sets d.year d.month d.day)

-- an allowed day of that year
pub record IsInYear (sets : CronSets) (year : ℕ) (d : Date) : Type 0 where
  pub date : IsFittingDate sets d
  pub same_year : d.year ≡ year

-- an allowed day of that month
pub record IsInMonth (sets : CronSets) (year month : ℕ) (d : Date) : Type 0 where
  pub date : IsFittingDate sets d
  pub same_year : d.year ≡ year
  pub same_month : d.month ≡ month

-- an allowed time of day
pub record IsFittingTime (sets : CronSets) (t : TimeOfDay) : Type 0 where
  pub hour : t.hour ≤ 23
  pub minute : t.minute ≤ 59
  pub fits : IsTrue (fits_time sets t.hour t.minute)

-- an allowed time of that hour
pub record IsInHour (sets : CronSets) (hour : ℕ) (t : TimeOfDay) : Type 0 where
  pub time : IsFittingTime sets t
  pub same_hour : t.hour ≡ hour

-- the place of a day among all days, where each year has room for 16 months and each month for 32 days
abbrev pub day_key : ℕ → ℕ → ℕ → ℕ
day_key year month day = year * 512 + month * 32 + day

abbrev pub date_key : Date → ℕ
date_key d = day_key d.year d.month d.day

-- the minutes since midnight
abbrev pub minute_of_day : TimeOfDay → ℕ
minute_of_day t = t.hour * 60 + t.minute

-- the place of a minute among all minutes: that of its day, and the minutes since midnight
abbrev pub minute_key : Civil → ℕ
minute_key d = day_key d.year d.month d.day * 1440 + (d.hour * 60 + d.minute)

-- where a search for a day may start: one day more than the month has is the next month's first
pub record IsStart (d : Date) : Type 0 where
  pub from_1970 : first_year ≤ d.year
  pub to_2199 : d.year ≤ last_year
  pub month_low : 1 ≤ d.month
  pub month_high : d.month ≤ 12
  pub day_low : 1 ≤ d.day
  pub day_high : d.day ≤ 32
