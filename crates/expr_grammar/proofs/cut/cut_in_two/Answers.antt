use Rattle.expr_grammar.proofs.Cuts.{three_parts}
use Rattle.expr_grammar.proofs.cut.cut_in_two.Goals as goal

pub returns-in-Some-split_once : goal.returns-in-Some-split_once
returns-in-Some-split_once c =
    three_parts c.args.separator c.args.text.now c.in-Some.front.now c.in-Some.rest.now
    c.in-Some-split_once.field-0.0.now c.in-Some-split_once.field-0.1.now c.in-Some.ensures.cut c.in-Some-split_once.ensures.cut
