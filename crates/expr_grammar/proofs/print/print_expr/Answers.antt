use Rattle.std.proofs.Common.{ℕ, List, ◌++◌, ◌∙◌, ap, subst, sym}
use Rattle.expressions.specs.Canonical.{canonical}
use Rattle.expressions.specs.Spelling.{Spells}
use Rattle.expr_grammar.proofs.CanonicalLaws.{canonical_spells}
use Rattle.expr_grammar.proofs.print.print_expr.Goals as goal

pub returns-clause-spells : goal.returns-clause-spells
returns-clause-spells c =
    let P : List ℕ → Type 0 = λ text. Spells text c.args.expr.now in
    subst P (sym (c.in_ok-put_expr.ensures ∙ ap (λ text. text ++ canonical c.args.expr.now) c.new-text.ensures.items)) (canonical_spells c.args.expr.now c.requires)
