use Rattle.std.proofs.Common.{sym, ap, ◌∙◌, arith}
use Rattle.ledger_rows.specs.Tallying.{tally_of}
use Rattle.ledger_rows.proofs.LineTallies.{rows_few}
use Rattle.ledger_rows.proofs.Tallies.{standings_are}
use Rattle.ledger_rows.proofs.lane.tally_in.Goals as goal

pub returns-clause-value : goal.returns-clause-value
returns-clause-value c = c.tally.ensures ∙ ap tally_of (sym (standings_are 0 c.args.rows.now.rows c.requires.rising))

pub returns-clause-small : goal.returns-clause-small
returns-clause-small c = rows_few c.args.rows.now.rows _ c.tally.result (omega (arith, c.len-few.ensures.value, c.len-few.ensures.few)) c.tally.ensures
