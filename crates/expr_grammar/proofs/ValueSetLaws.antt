-- Each value of a field has its bit in a set of the field.
use Rattle.std.proofs.Common.{ℕ, ◌≤◌, arith}
use Rattle.expressions.specs.CronItems as cron
use Rattle.expr_grammar.specs.declared.value_set.ValueSet.{ValueSet}
use Rattle.expr_grammar.specs.declared.value_set.ValueSet.TheVariants as sets
use Rattle.expr_grammar.specs.ValueSets.{CanHold, IsSetOf}

pub can_hold : (field : cron.Field) (set : ValueSet) (v : ℕ) → IsSetOf field set → cron.least field ≤ v → v ≤ cron.greatest field → CanHold set v
can_hold cron.minutes (sets.Values bits) v is low high = omega arith
can_hold cron.hours (sets.Values bits) v is low high = omega arith
can_hold cron.day_of_month (sets.Values bits) v is low high = omega arith
can_hold cron.month (sets.Values bits) v is low high = omega arith
can_hold cron.day_of_week (sets.Values bits) v is low high = omega arith
can_hold cron.year (sets.Values bits) v is low high = absurd is
can_hold cron.minutes (sets.Years a b) v is low high = absurd is
can_hold cron.hours (sets.Years a b) v is low high = absurd is
can_hold cron.day_of_month (sets.Years a b) v is low high = absurd is
can_hold cron.month (sets.Years a b) v is low high = absurd is
can_hold cron.day_of_week (sets.Years a b) v is low high = absurd is
can_hold cron.year (sets.Years a b) v is low high = (omega arith, omega arith)
