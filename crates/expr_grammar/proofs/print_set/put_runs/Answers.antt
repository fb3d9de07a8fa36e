use Rattle.std.proofs.Common.{◌+◌, ap}
use Rattle.expr_grammar.specs.Items.{field_of}
use Rattle.expr_grammar.specs.ValueSets.{holds}
use Rattle.expr_grammar.proofs.PrintLaws.{printing_more}
use Rattle.expr_grammar.proofs.print_set.put_runs.Goals as goal

pub loop-value-preserved : goal.loop-value-preserved
loop-value-preserved c =
    printing_more (field_of c.args.field) (holds c.args.set) c.args.text.now.items c.loop-value.text.items c.put_run_at.new.text.items
    c.loop-value.is_first c.in_ok-is_first.is_first c.loop-value.value (c.greatest-value-end.result + 1)
    c.loop-value-test.true (ap (λ g. g + 1) c.greatest-value-end.ensures) c.in_ok-is_first.ensures c.loop-value.invariant
