use Rattle.std.proofs.Common.{arith}
use Rattle.step_codec.proofs.Spellings.{pairs_grown}
use Rattle.step_codec.proofs.write.put_pairs.Goals as goal

pub loop-pair-preserved : goal.loop-pair-preserved
loop-pair-preserved c = record {
  bytes = rw (c.put_pair.ensures.bytes, c.loop-pair.invariant.bytes) (pairs_grown c.args.into.now.bytes c.args.pairs.now c.loop-pair.pair-index _ c.loop-pair-test.true);
  room = omega (arith, c.put_pair.ensures.room, c.loop-pair.invariant.room);
}
