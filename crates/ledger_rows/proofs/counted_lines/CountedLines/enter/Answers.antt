use Rattle.ledger_rows.proofs.LineTallies.{tally_entered}
use Rattle.ledger_rows.proofs.counted_lines.CountedLines.enter.Goals as goal

pub invariant_of-self : goal.invariant_of-self
invariant_of-self c =
    tally_entered c.self.inside.lines.rows c.enter.new.self.rows c.args.policy c.args.pairs.now c.self.inside.tally c.enter.ensures.rows c.self.invariant
