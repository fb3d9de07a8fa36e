use Rattle.step_codec.specs.Cells.{Number, One, Four, Eight}
use Rattle.step_codec.specs.Payload.{code}
use Rattle.step_codec.proofs.Spellings.{five_cells}
use Rattle.step_codec.proofs.write.put_holding.Goals as goal

pub returns-clause-bytes : goal.returns-clause-bytes
returns-clause-bytes c =
    rw (c.put_64-2.ensures.bytes, c.put_32.ensures.bytes, c.put_8-2.ensures.bytes, c.put_64.ensures.bytes, c.put_8.ensures.bytes)
    (five_cells c.args.into.now.bytes (code c.args.tag) (Number Eight c.args.at.0) (Number One c.args.shard) (Number Four c.args.worker) (Number Eight c.args.epoch))
