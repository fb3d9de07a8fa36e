use Rattle.std.proofs.Common.{sym, ◌∙◌, arith}
use Rattle.expr_grammar.proofs.Texts.{masked_apart, masked_more}
use Rattle.expr_grammar.proofs.at.has_form.Goals as goal

pub returns-then-masked-at : goal.returns-then-masked-at
returns-then-masked-at c =
    masked_apart c.args.inner.now _ c.loop-at.at (omega arith) (omega arith) c.loop-at.invariant (λ e. c.if-masked-at.true (c.masked.ensures ∙ e))

pub loop-at-preserved : goal.loop-at-preserved
loop-at-preserved c =
    masked_more c.args.inner.now _ c.loop-at.at (omega arith) (omega arith) (sym c.masked.ensures ∙ c.if-masked-at.false) ∙ c.loop-at.invariant
