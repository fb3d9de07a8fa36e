-- What the readers' parts give, in the words of the spelling.
use Rattle.std.specs.Prelude.{ℕ, nat_le, nat_lt, ◌&&◌, Option, List, [], ◌∷◌}
use Rattle.expressions.specs.declared.expression.Civil.{Civil}
use Rattle.expressions.specs.Years.{first_year, last_year}
use Rattle.expressions.specs.CivilSeconds.{month_length}
use Rattle.plain_words.specs.Lists.{first_some}
use Rattle.expressions.specs.ExpressionFaults.{Fault, group, group_fault}

-- the civil second that the groups of an `at` give
abbrev pub civil_of : List ℕ → Civil
civil_of inner = record {
  year = group inner 0 4;
  month = group inner 5 2;
  day = group inner 8 2;
  hour = group inner 11 2;
  minute = group inner 14 2;
  second = group inner 17 2;
}

-- the first fault of the time of day of an `at`
abbrev pub time_fault : Civil → Option Fault
time_fault c = first_some (
    group_fault 11 (nat_lt c.hour 24) ∷ group_fault 14 (nat_lt c.minute 60) ∷ group_fault 17 (nat_lt c.second 60) ∷ [])

-- the first fault of the groups of an `at`
abbrev pub civil_fault : Civil → Option Fault
civil_fault c = first_some (
    group_fault 0 (nat_le first_year c.year && nat_le c.year last_year)
    ∷ group_fault 5 (nat_le 1 c.month && nat_le c.month 12)
    ∷ group_fault 8 (nat_le 1 c.day && nat_le c.day (month_length c.year c.month))
    ∷ time_fault c ∷ [])
