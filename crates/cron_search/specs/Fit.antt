-- Which civil minutes fit the sets of a cron expression (EventBridge Scheduler User Guide, schedule types).
use Rattle.std.specs.Prelude.{ℕ, ◌+◌, ◌-◌, ◌/◌, Bool, ◌&&◌, ◌==◌, nat_lt, nat_le, if◌then◌else◌}
use Rattle.expressions.specs.declared.expression.Civil.{Civil}
use Rattle.expressions.specs.declared.expression.CronSets.{CronSets}
use Rattle.expressions.specs.declared.expression.DayRule.{DayRule}
use Rattle.expressions.specs.declared.expression.DayRule.TheVariants.{OfMonth, LastDay, NearWeekday, OfWeek, LastOf, Nth}
pub use Rattle.expressions.specs.Sets.{has_value, has_year}
use Rattle.cron_search.specs.CivilTime.{month_length, saturday, sunday, weekday_of}

-- the weekday closest to day n of a month, and in that month, where day n has this weekday
abbrev pub nearest_weekday : ℕ → ℕ → ℕ → ℕ
nearest_weekday weekday length n =
    if weekday == saturday then (if n == 1 then 3 else n - 1)
    else (if weekday == sunday then (if n == length then n - 2 else n + 1) else n)

-- the day rule allows this day: in the order of the cases
--   a day of the set · the month's last day · the weekday closest to day n, if the month has a day n
--   a weekday of the set · the last such weekday of the month · the nth such weekday of the month
unfoldable pub fits_day : DayRule → ℕ → ℕ → ℕ → Bool
fits_day (OfMonth set) year month day = has_value set day
fits_day LastDay year month day = day == month_length year month
fits_day (NearWeekday n) year month day =
    nat_le 1 n && nat_le n (month_length year month)
    && (day == nearest_weekday (weekday_of year month n) (month_length year month) n)
fits_day (OfWeek set) year month day = has_value set (weekday_of year month day)
fits_day (LastOf w) year month day =
    (weekday_of year month day == w) && nat_lt (month_length year month) (day + 7)
fits_day (Nth w nth) year month day = (weekday_of year month day == w) && ((day + 6) / 7 == nth)

-- year, month and day are allowed
abbrev pub fits_date : CronSets → ℕ → ℕ → ℕ → Bool
fits_date sets year month day =
    has_year sets year && has_value sets.months month && fits_day sets.days year month day

-- hour and minute are allowed
abbrev pub fits_time : CronSets → ℕ → ℕ → Bool
fits_time sets hour minute = has_value sets.hours hour && has_value sets.minutes minute

-- the civil minute d fits the sets
abbrev pub fits : CronSets → Civil → Bool
fits sets d = fits_date sets d.year d.month d.day && fits_time sets d.hour d.minute
