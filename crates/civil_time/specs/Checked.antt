-- Whether a civil date and time is a real one, and else which part of it is at fault: the first one, from the year on.
use Rattle.std.specs.Prelude.{nat_le, nat_lt, not, ◌&&◌, Option, Some, None, Result, Ok, Err, [], ◌∷◌}
use Rattle.plain_words.specs.Lists.{first_some, or_else, when}
use Rattle.expressions.specs.declared.expression.Civil.{Civil}
use Rattle.expressions.specs.CivilSeconds.{month_length}
use Rattle.expressions.specs.Years.{first_year, last_year}
use Rattle.civil_time.specs.declared.civil_fault.CivilFault.{CivilFault}
use Rattle.civil_time.specs.declared.civil_fault.CivilFault.TheVariants.{Year, Month, Day, Hour, Minute, Second}

-- the first part of the date that the calendar does not have
abbrev pub date_fault : Civil → Option CivilFault
date_fault c = first_some (
    when (not (nat_le first_year c.year && nat_le c.year last_year)) Year
    ∷ when (not (nat_le 1 c.month && nat_le c.month 12)) Month
    ∷ when (not (nat_le 1 c.day && nat_le c.day (month_length c.year c.month))) Day
    ∷ [])

-- the first part of the time of day that the clock does not have
abbrev pub time_fault : Civil → Option CivilFault
time_fault c = first_some (
    when (not (nat_lt c.hour 24)) Hour ∷ when (not (nat_lt c.minute 60)) Minute ∷ when (not (nat_lt c.second 60)) Second ∷ [])

-- the date and time, or the fault of its date, or else of its time
abbrev pub checked_by : Civil → Option CivilFault → Result Civil CivilFault
checked_by c None = Ok c
checked_by c (Some fault) = Err fault

-- the date and time where it is real, and else the fault of its date, or that of its time
abbrev pub checked : Civil → Result Civil CivilFault
checked c = checked_by c (or_else (date_fault c) (time_fault c))
