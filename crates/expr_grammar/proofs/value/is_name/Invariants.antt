use Rattle.std.proofs.Common.{◌≡◌, drop}
use Rattle.expressions.specs.Pieces.{same, upper}
use Rattle.expr_grammar.proofs.value.is_name.Given as goal

abbrev pub invariant-loop-at : goal.invariant-loop-at
invariant-loop-at l = same (upper (drop l.at l.text)) (drop l.at l.name) ≡ same (upper l.text) l.name
