use Rattle.std.proofs.Common.{◌+◌, ap, ◌∙◌, Some}
use Rattle.std.specs.Option.{option_map}
use Rattle.expr_grammar.specs.Items.{field_of, first_value, item_of}
use Rattle.expr_grammar.proofs.Bits.{years_of_more}
use Rattle.expr_grammar.proofs.ItemsLaws.{first_more, several_more, alone_more}
use Rattle.expr_grammar.proofs.items.with_item.Goals as goal

pub returns : goal.returns
returns c = λ all s. record {
  first = ap (λ x. option_map item_of (Some x)) c.unwrap_or.ensures ∙ first_more c.args.items.first c.args.item all s.first;
  several = c.is_some.ensures ∙ several_more c.args.items.first (item_of c.args.item) all s.first;
  alone = c.any_alone.ensures ∙ alone_more c.args.items.alone (item_of c.args.item) all s.alone;
  low = rw (s.low, c.bits_from.ensures, c.first_value-first.ensures) (years_of_more (first_value (field_of c.args.field)) all (item_of c.args.item));
  high = rw (s.high, c.bits_from-2.ensures, c.first_value-first.ensures) (years_of_more (first_value (field_of c.args.field) + 128) all (item_of c.args.item));
}
