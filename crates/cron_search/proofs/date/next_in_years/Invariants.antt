use Rattle.std.proofs.Common.{◌-◌, ◌≤◌}
use Rattle.cron_search.specs.Levels.{date_key, IsFittingDate}
use Rattle.cron_search.specs.declared.date.Date.{Date}
use Rattle.expressions.specs.declared.expression.CronSets.{CronSets}
use Rattle.cron_search.proofs.date.next_in_years.Given as goal

-- what the search knows at `cursor`: nothing that is allowed lies between `from` and it
pub record IsSearched (sets : CronSets) (from cursor : Date) : Type 0 where
  pub from_1970 : 1970 ≤ cursor.year
  pub to_2200 : cursor.year ≤ 2200
  pub month_low : 1 ≤ cursor.month
  pub month_high : cursor.month ≤ 12
  pub day_low : 1 ≤ cursor.day
  pub day_high : cursor.day ≤ 32
  pub later : date_key from ≤ date_key cursor
  pub searched : (e : Date) → IsFittingDate sets e → date_key from ≤ date_key e → date_key cursor ≤ date_key e

abbrev pub invariant-loop-year : goal.invariant-loop-year
invariant-loop-year l = IsSearched l.sets l.fn.from l.cursor

abbrev pub decreases-loop-year : goal.decreases-loop-year
decreases-loop-year l = 2200 - l.cursor.year
