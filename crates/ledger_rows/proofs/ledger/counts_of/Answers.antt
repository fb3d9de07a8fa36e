use Rattle.ledger_rows.proofs.Splitting.{counts_are, sum_small}
use Rattle.ledger_rows.proofs.ledger.counts_of.Goals as goal

pub counts_by-requires : goal.counts_by-requires
counts_by-requires c = sum_small c.args.lanes.now c.args.tally c.open_counts_of.result c.args.now.0 c.requires.few c.requires.tallied c.open_counts_of.ensures

pub returns : goal.returns
returns c = counts_are c.args.lanes.now c.args.tally c.open_counts_of.result c.args.now.0 c.counts_by.result c.requires.tallied c.open_counts_of.ensures c.counts_by.ensures
