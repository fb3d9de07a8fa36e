use Rattle.expr_grammar.proofs.Laws.{fault_exactly, read_valid, spelled_exactly, spelled_once}
use Rattle.expr_grammar.proofs.SpelledLaws.{spelled_answer}
use Rattle.expr_grammar.proofs.read.read_expr.Goals as goal

pub returns-clause-spelled : goal.returns-clause-spelled
returns-clause-spelled c = spelled_exactly c.args.text.now c.read_form.result c.read_form.ensures

pub returns-clause-faulty : goal.returns-clause-faulty
returns-clause-faulty c = fault_exactly c.args.text.now c.read_form.result c.read_form.ensures

pub returns-clause-valid : goal.returns-clause-valid
returns-clause-valid c = read_valid c.args.text.now c.read_form.result c.read_form.ensures

pub returns-clause-once : goal.returns-clause-once
returns-clause-once c = spelled_once c.args.text.now

pub returns-clause-whole : goal.returns-clause-whole
returns-clause-whole c = spelled_answer c.args.text.now c.read_form.result c.read_form.ensures
