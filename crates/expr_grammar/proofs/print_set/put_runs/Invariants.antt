use Rattle.expr_grammar.specs.Items.{field_of}
use Rattle.expr_grammar.specs.ValueSets.{holds}
use Rattle.expr_grammar.proofs.PrintLaws.{Printing}
use Rattle.expr_grammar.proofs.print_set.put_runs.Given as goal

abbrev pub invariant-loop-value : goal.invariant-loop-value
invariant-loop-value l = Printing (field_of l.fn.field) (holds l.set) l.fn.text.items l.text.items l.is_first l.value l.value-end
