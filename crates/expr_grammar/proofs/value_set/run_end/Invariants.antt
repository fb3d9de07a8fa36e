use Rattle.std.proofs.Common.{◌≡◌, ◌≤◌, ◌+◌, ◌-◌}
use Rattle.expressions.specs.Canonical.{run_end}
use Rattle.expressions.specs.CronItems as cron
use Rattle.expr_grammar.specs.Items.{field_of}
use Rattle.expr_grammar.specs.ValueSets.{holds}
use Rattle.expr_grammar.proofs.value_set.run_end.Given as goal

abbrev pub invariant-loop-next : goal.invariant-loop-next
invariant-loop-next l = record {
  left :
      run_end (holds l.set) (l.next - 1) (cron.greatest (field_of l.fn.field) - (l.next - 1))
      ≡ run_end (holds l.set) l.value (cron.greatest (field_of l.fn.field) - l.value);
  low : l.value + 1 ≤ l.next;
}
