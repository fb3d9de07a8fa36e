use Rattle.std.proofs.Common.{ap, Ok, ◌∙◌}
use Rattle.expressions.specs.declared.expression.Expr.TheVariants as exprs
use Rattle.expressions.proofs.RealSeconds.{is_civil-true}
use Rattle.zone_times.proofs.read_civil.Goals as goal

pub returns : goal.returns
returns c =
    let civil = c.in-Ok-At.civil in
    let was = c.in-Ok-At.is ∙ ap Ok c.in-Ok-At.field-0-is in
    is_civil-true civil ((c.read_expr.ensures.spelled (exprs.At civil)).0 was).0
