use Rattle.std.proofs.Common.{Some, ap, sym, ◌∙◌}
use Rattle.ledger_rows.specs.Rows.{filed_in_row}
use Rattle.ledger_rows.proofs.Lookups.{there_is}
use Rattle.ledger_rows.proofs.lane.filed_in.Goals as goal

pub returns-in-Some-clause-value : goal.returns-in-Some-clause-value
returns-in-Some-clause-value c = ap Some c.filed.ensures ∙ ap filed_in_row (sym (there_is c.args.rows.now.rows c.args.instant c.in-Some.place c.in-Some.ensures.some))
