use Rattle.std.proofs.Common.{◌≡◌, ◌+◌}
use Rattle.expressions.specs.CronItems.{bits_below, contains}
use Rattle.expr_grammar.specs.Items.{item_of}
use Rattle.expr_grammar.proofs.items.bits_from.Given as goal

abbrev pub invariant-loop-place : goal.invariant-loop-place
invariant-loop-place l = l.bits ≡ bits_below (λ i. contains (l.first + i) (item_of l.item)) l.place
