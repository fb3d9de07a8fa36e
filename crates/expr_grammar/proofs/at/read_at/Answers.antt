use Rattle.expr_grammar.proofs.AtLaws.{spelled_civil}
use Rattle.expr_grammar.proofs.at.read_at.Goals as goal

pub returns-in-Ok : goal.returns-in-Ok
returns-in-Ok c = spelled_civil c.args.inner.now c.in-Ok.civil c.in-Ok.ensures
