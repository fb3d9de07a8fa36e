use Rattle.std.proofs.Common.{Some, ap, ◌∙◌, arith}
use Rattle.ledger_rows.proofs.LastLemmas.{last_there}
use Rattle.ledger_rows.proofs.lane.final_instant.Goals as goal

pub returns-in_default : goal.returns-in_default
returns-in_default c = ap Some c.instant.ensures ∙ last_there c.args.rows.now.rows c.len.result c.len.ensures.value (omega (arith, c.in_default))
