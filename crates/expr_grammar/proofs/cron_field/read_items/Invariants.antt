use Rattle.std.proofs.Common.{length}
use Rattle.expr_grammar.specs.Items.{field_of}
use Rattle.expr_grammar.proofs.FieldLaws.{Progress}
use Rattle.expr_grammar.proofs.cron_field.read_items.Given as goal

abbrev pub invariant-loop-text : goal.invariant-loop-text
invariant-loop-text l = Progress (field_of l.field) l.word.at l.word.text.now l.at l.rest l.items

abbrev pub decreases-loop-text : goal.decreases-loop-text
decreases-loop-text l = length l.rest
