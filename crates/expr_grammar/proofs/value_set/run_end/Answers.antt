use Rattle.std.proofs.Common.{◌∙◌, arith, rules}
use Rattle.expressions.specs.CronItems as cron
use Rattle.expr_grammar.specs.Items.{field_of}
use Rattle.expr_grammar.specs.ValueSets.{holds}
use Rattle.expr_grammar.proofs.PrintLaws.{end_more}
use Rattle.expr_grammar.proofs.value_set.run_end.Goals as goal

pub loop-next-preserved : goal.loop-next-preserved
loop-next-preserved c = record {
  left =
      end_more (holds c.args.set) c.loop-next.next (cron.greatest (field_of c.args.field)) (omega (arith, c.loop-next.invariant.low))
      (omega (arith, c.greatest-greatest.ensures)) (search rules) ∙ c.loop-next.invariant.left;
  low = omega (arith, c.loop-next.invariant.low);
}
