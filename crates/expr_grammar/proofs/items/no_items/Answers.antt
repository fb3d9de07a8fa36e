use Rattle.std.proofs.Common.{◌+◌, refl, sym}
use Rattle.expr_grammar.specs.Items.{field_of, first_value}
use Rattle.expr_grammar.proofs.Bits.{years_of_none}
use Rattle.expr_grammar.proofs.items.no_items.Goals as goal

pub returns : goal.returns
returns c = record {
  first = refl;
  several = refl;
  alone = refl;
  low = sym (years_of_none (first_value (field_of c.args.field)));
  high = sym (years_of_none (first_value (field_of c.args.field) + 128));
}
