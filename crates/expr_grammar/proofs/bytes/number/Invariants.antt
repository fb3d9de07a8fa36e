use Rattle.std.proofs.Common.{◌≡◌, ◌^◌, ◌<◌, true, drop}
use Rattle.std.specs.List.{list_all}
use Rattle.expressions.specs.Pieces.{is_digit, number_from, number_of}
use Rattle.expr_grammar.proofs.bytes.number.Given as goal

abbrev pub invariant-loop-byte : goal.invariant-loop-byte
invariant-loop-byte l = record {
  value : number_from l.number (drop l.byte-index l.digits) ≡ number_of l.digits;
  digits : list_all is_digit (drop l.byte-index l.digits) ≡ true;
  bound : l.number < 10 ^ l.byte-index;
}
