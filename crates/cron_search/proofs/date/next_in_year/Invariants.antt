use Rattle.std.proofs.Common.{◌≡◌, ◌-◌, ◌≤◌}
use Rattle.cron_search.specs.Levels.{date_key, IsInYear}
use Rattle.cron_search.specs.declared.date.Date.{Date}
use Rattle.expressions.specs.declared.expression.CronSets.{CronSets}
use Rattle.cron_search.proofs.date.next_in_year.Given as goal

-- what the search knows at `cursor`: nothing that is allowed lies between `from` and it
pub record IsSearched (sets : CronSets) (from cursor : Date) : Type 0 where
  pub year : cursor.year ≡ from.year
  pub month_low : 1 ≤ cursor.month
  pub month_high : cursor.month ≤ 13
  pub day_low : 1 ≤ cursor.day
  pub day_high : cursor.day ≤ 32
  pub later : date_key from ≤ date_key cursor
  pub searched : (e : Date) → IsInYear sets from.year e → date_key from ≤ date_key e → date_key cursor ≤ date_key e

abbrev pub invariant-loop-month : goal.invariant-loop-month
invariant-loop-month l = IsSearched l.sets l.from l.cursor

abbrev pub decreases-loop-month : goal.decreases-loop-month
decreases-loop-month l = 13 - l.cursor.month
