use Rattle.schedule_clock_tests.proofs.contents.expr_of.Goals as goal

pub returns-in-Ok : goal.returns-in-Ok
returns-in-Ok c = (c.read_expr.ensures.spelled c.in-Ok.expr).0 c.in-Ok.is
