use Rattle.std.proofs.Common.{◌+◌, ◌∙◌, arith}
use Rattle.ledger_rows.specs.Tallying.{together}
use Rattle.ledger_rows.proofs.OpenSums.{shards_begin, shards_end, shards_few, shards_more}
use Rattle.ledger_rows.proofs.ledger.open_counts_of.Goals as goal

pub loop-shard-init : goal.loop-shard-init
loop-shard-init c = shards_begin c.args.lanes.now c.args.now.0 c.no_counts-counts.result c.no_counts-counts.ensures

pub together-counts-requires : goal.together-counts-requires
together-counts-requires c =
    shards_few c.args.lanes.now c.args.now.0 (c.loop-shard.shard + 1) (together c.loop-shard.counts c.open_counts_in.result) c.requires.few c.requires.entries
    (shards_more c.args.lanes.now c.args.now.0 c.loop-shard.shard c.loop-shard.counts c.open_counts_in.result c.loop-shard.invariant c.open_counts_in.ensures)

pub loop-shard-preserved : goal.loop-shard-preserved
loop-shard-preserved c =
    c.together-counts.ensures
    ∙ shards_more c.args.lanes.now c.args.now.0 c.loop-shard.shard c.loop-shard.counts c.open_counts_in.result c.loop-shard.invariant c.open_counts_in.ensures

pub returns : goal.returns
returns c = shards_end c.args.lanes.now c.args.now.0 c.loop-shard.shard c.loop-shard.counts (omega (arith, c.loop-shard-test.false)) c.loop-shard.invariant
