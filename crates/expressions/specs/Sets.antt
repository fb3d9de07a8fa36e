-- The sets of a cron expression. In a field's set bit v stands for the value v. The years have two halves: bit i of the
-- lower stands for 1970 + i, and bit i of the upper for 2098 + i.
use Rattle.std.specs.Prelude.{ℕ, ◌-◌, ◌==◌, nat_lt, Bool, if◌then◌else◌}
use Rattle.std.specs.Int.{bit_at}
use Rattle.expressions.specs.declared.expression.CronSets.{CronSets}
use Rattle.expressions.specs.Years.{first_year, upper_year}

-- the value is in the set
abbrev pub has_value : ℕ → ℕ → Bool
has_value set value = bit_at set value == 1

-- the year is in one of two halves
abbrev pub is_in_halves : ℕ → ℕ → ℕ → Bool
is_in_halves low high year =
    if nat_lt year upper_year then has_value low (year - first_year) else has_value high (year - upper_year)

-- the year is in the sets
abbrev pub has_year : CronSets → ℕ → Bool
has_year sets year = is_in_halves sets.years_low sets.years_high year
