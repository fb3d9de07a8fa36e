use Rattle.std.proofs.Common.{sym}
use Rattle.expr_grammar.proofs.Cuts.{one_part, first_part}
use Rattle.expr_grammar.proofs.cut.split_once.Goals as goal

pub returns-in-None-clause-cut : goal.returns-in-None-clause-cut
returns-in-None-clause-cut c = one_part c.args.separator c.args.text.now (sym c.in-None.ensures.value)

pub returns-in-Some-clause-cut : goal.returns-in-Some-clause-cut
returns-in-Some-clause-cut c =
    first_part c.args.separator c.in-Some.at c.args.text.now c.split_at.result.0.now c.split_at.result.1.now c.split_at-in-Some.result.1.now
    (sym c.in-Some.ensures.value) c.split_at.ensures.front c.split_at.ensures.back c.split_at-in-Some.ensures.back
