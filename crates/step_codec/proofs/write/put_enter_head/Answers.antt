use Rattle.step_codec.specs.Cells.{Number, Two, Four, Eight}
use Rattle.step_codec.specs.Payload.{code}
use Rattle.step_codec.proofs.Spellings.{four_cells}
use Rattle.step_codec.proofs.write.put_enter_head.Goals as goal

pub returns-clause-bytes : goal.returns-clause-bytes
returns-clause-bytes c =
    rw (c.put_16.ensures.bytes, c.put_32.ensures.bytes, c.put_64.ensures.bytes, c.put_8.ensures.bytes)
    (four_cells c.args.into.now.bytes (code 4) (Number Eight c.args.at.0) (Number Four c.args.inc) (Number Two c.args.count))
