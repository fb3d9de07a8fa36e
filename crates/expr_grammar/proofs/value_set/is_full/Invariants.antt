use Rattle.std.proofs.Common.{◌≡◌, ◌≤◌, ◌+◌, ◌-◌}
use Rattle.expressions.specs.Canonical.{all_pass}
use Rattle.expressions.specs.CronItems as cron
use Rattle.expr_grammar.specs.Items.{field_of}
use Rattle.expr_grammar.specs.ValueSets.{holds}
use Rattle.expr_grammar.proofs.value_set.is_full.Given as goal

abbrev pub invariant-loop-value : goal.invariant-loop-value
invariant-loop-value l = record {
  left :
      all_pass (holds l.set) l.value (l.value-end - l.value)
      ≡ all_pass (holds l.set) (cron.least (field_of l.fn.field)) (cron.greatest (field_of l.fn.field) + 1 - cron.least (field_of l.fn.field));
  low : cron.least (field_of l.fn.field) ≤ l.value;
  end : l.value-end ≡ cron.greatest (field_of l.fn.field) + 1;
}
