use Rattle.std.proofs.Common.{◌≡◌, drop}
use Rattle.std.specs.Prelude.{map, codes}
use Rattle.expressions.specs.Pieces.{same}
use Rattle.expressions.specs.ExpressionFaults.{masked}
use Rattle.expr_grammar.proofs.at.has_form.Given as goal

abbrev pub invariant-loop-at : goal.invariant-loop-at
invariant-loop-at l =
    same (map masked (drop l.at l.inner)) (drop l.at (codes "0000-00-00T00:00:00"))
    ≡ same (map masked l.inner) (codes "0000-00-00T00:00:00")
