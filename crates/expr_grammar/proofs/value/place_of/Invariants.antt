use Rattle.std.proofs.Common.{◌≡◌, ◌+◌, drop}
use Rattle.expressions.specs.Pieces.{upper}
use Rattle.expressions.specs.CronItems.{place_from}
use Rattle.expr_grammar.proofs.value.place_of.Given as goal

abbrev pub invariant-loop-name : goal.invariant-loop-name
invariant-loop-name l = record {
  left : place_from l.place (upper l.text) (drop l.name-index l.names) ≡ place_from 1 (upper l.text) l.names;
  place : l.place ≡ l.name-index + 1;
}
