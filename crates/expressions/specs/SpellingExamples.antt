-- Expressions written out, on which the definitions of spelling are tried.
use Rattle.std.specs.Prelude.{ℕ, ◌+◌, ◌-◌, ◌^◌, List, [], ◌∷◌}
use Rattle.expressions.specs.declared.expression.CronSets.{CronSets}
use Rattle.expressions.specs.declared.expression.DayRule.TheVariants as rules
use Rattle.expressions.specs.CronItems as cron
use Rattle.expressions.specs.CronItems.{Field, Item, row, is_in_range, set_of, years_of}

-- every value of a field
unfoldable pub every : Field → List Item
every field = cron.values (cron.least field) (cron.greatest field) 1 ∷ []

-- one value
unfoldable pub one : ℕ → List Item
one v = cron.values v v 1 ∷ []

-- 02:30 on each day
unfoldable pub half_past_two : CronSets
half_past_two = record {
  minutes = 2 ^ 30;
  hours = 2 ^ 2;
  days = rules.OfMonth (2 ^ 32 - 2);
  months = 2 ^ 13 - 2;
  years_low = 2 ^ 128 - 1;
  years_high = 2 ^ 102 - 1;
}

-- 09:00 on the weekday closest to 1 August 2026
unfoldable pub first_weekday : CronSets
first_weekday = record {
  minutes = 1;
  hours = 2 ^ 9;
  days = rules.NearWeekday 1;
  months = 2 ^ 8;
  years_low = 2 ^ 56;
  years_high = 0;
}

-- 09:00 on the second Tuesday of January 2026
unfoldable pub second_tuesday : CronSets
second_tuesday = record {
  minutes = 1;
  hours = 2 ^ 9;
  days = rules.Nth 3 2;
  months = 2;
  years_low = 2 ^ 56;
  years_high = 0;
}

-- 09:00 on the last Friday of January 2026
unfoldable pub last_friday : CronSets
last_friday = record {
  minutes = 1;
  hours = 2 ^ 9;
  days = rules.LastOf 6;
  months = 2;
  years_low = 2 ^ 56;
  years_high = 0;
}

-- minutes in runs, years over both halves of their set
unfoldable pub at_runs : CronSets
at_runs = record {
  minutes = 2 ^ 0 + 2 ^ 1 + 2 ^ 2 + 2 ^ 30 + 2 ^ 58 + 2 ^ 59;
  hours = 2 ^ 24 - 1;
  days = rules.OfWeek (2 ^ 7);
  months = 2 ^ 13 - 2;
  years_low = 2 ^ 127;
  years_high = 2 ^ 0;
}
