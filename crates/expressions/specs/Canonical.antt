-- The one canonical spelling of an expression.
use Rattle.std.specs.Prelude.{ℕ, zero, suc, ◌+◌, ◌-◌, ◌==◌, Bool, true, not, ◌&&◌, ◌||◌, if◌then◌else◌, List, [], ◌++◌, map, codes}
use Rattle.std.specs.Fmt.{decimal}
use Rattle.std.specs.List.{join_with_byte}
use Rattle.expressions.specs.declared.expression.CronSets.{CronSets}
use Rattle.expressions.specs.declared.expression.DayRule.{DayRule}
use Rattle.expressions.specs.declared.expression.DayRule.TheVariants as rules
use Rattle.expressions.specs.declared.expression.Expr.{Expr}
use Rattle.expressions.specs.declared.expression.Expr.TheVariants as exprs
use Rattle.expressions.specs.declared.expression.Unit.{Unit as RateUnit}
use Rattle.expressions.specs.declared.expression.Unit.TheVariants as units
use Rattle.plain_words.specs.Lists.{only_if}
use Rattle.expressions.specs.CivilSeconds.{at_text}
use Rattle.plain_words.specs.Bytes.{comma}
use Rattle.expressions.specs.Sets.{has_value, has_year}
use Rattle.expressions.specs.CronItems as cron
use Rattle.expressions.specs.CronItems.{Field, least, greatest}

-- a maximal run begins at the value: it passes, and it is the least value or the one below does not pass
abbrev pub begins_run : (ℕ → Bool) → ℕ → ℕ → Bool
begins_run test low v = test v && ((v == low) || not (test (v - 1)))

-- the last value of the run of a value that passes, at most so many values further on
abbrev pub run_end : (ℕ → Bool) → ℕ → ℕ → ℕ
run_end test v zero = v
run_end test v (suc n) = if test (v + 1) then run_end test (v + 1) n else v

-- the maximal runs that begin at one of n values from v on, the first and the last value of each
abbrev pub runs_from : (ℕ → Bool) → ℕ → ℕ → ℕ → List (ℕ × ℕ)
runs_from test low v zero = []
runs_from test low v (suc n) = only_if (begins_run test low v) (v, run_end test v n) ++ runs_from test low (v + 1) n

-- each of n values from v on passes
abbrev pub all_pass : (ℕ → Bool) → ℕ → ℕ → Bool
all_pass test v zero = true
all_pass test v (suc n) = test v && all_pass test (v + 1) n

-- how many values a field has
abbrev pub value_count : Field → ℕ
value_count field = greatest field + 1 - least field

-- a run, as its value or as its first and last value
abbrev pub run_text : ℕ × ℕ → List ℕ
run_text run = if run.0 == run.1 then decimal run.0 else decimal run.0 ++ codes "-" ++ decimal run.1

-- a set of values of a field: `*` where it is full, else its maximal runs in ascending order
unfoldable pub set_text : Field → (ℕ → Bool) → List ℕ
set_text field test =
    if all_pass test (least field) (value_count field) then codes "*"
    else join_with_byte comma (map run_text (runs_from test (least field) (least field) (value_count field)))

-- day of month by the rule
abbrev pub days_text : DayRule → List ℕ
days_text (rules.OfMonth set) = set_text cron.day_of_month (has_value set)
days_text rules.LastDay = codes "L"
days_text (rules.NearWeekday n) = decimal n ++ codes "W"
days_text rule = codes "?"

-- day of week by the rule
abbrev pub week_text : DayRule → List ℕ
week_text (rules.OfWeek set) = set_text cron.day_of_week (has_value set)
week_text (rules.LastOf n) = decimal n ++ codes "L"
week_text (rules.Nth n k) = decimal n ++ codes "#" ++ decimal k
week_text rule = codes "?"

-- the unit, in the singular for a count of 1
abbrev pub unit_text : ℕ → RateUnit → List ℕ
unit_text count units.Minute = if count == 1 then codes "minute" else codes "minutes"
unit_text count units.Hour = if count == 1 then codes "hour" else codes "hours"
unit_text count units.Day = if count == 1 then codes "day" else codes "days"

-- the text of a rate
abbrev pub rate_text : ℕ → RateUnit → List ℕ
rate_text count unit = codes "rate(" ++ decimal count ++ codes " " ++ unit_text count unit ++ codes ")"

-- the text of a cron
abbrev pub cron_text : CronSets → List ℕ
cron_text sets =
    codes "cron(" ++ set_text cron.minutes (has_value sets.minutes)
    ++ codes " " ++ set_text cron.hours (has_value sets.hours)
    ++ codes " " ++ days_text sets.days
    ++ codes " " ++ set_text cron.month (has_value sets.months)
    ++ codes " " ++ week_text sets.days
    ++ codes " " ++ set_text cron.year (has_year sets)
    ++ codes ")"

-- the canonical spelling of an expression
unfoldable pub canonical : Expr → List ℕ
canonical (exprs.At civil) = at_text civil
canonical (exprs.Rate count unit) = rate_text count unit
canonical (exprs.Cron sets) = cron_text sets
