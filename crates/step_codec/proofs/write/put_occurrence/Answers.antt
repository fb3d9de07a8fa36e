use Rattle.step_codec.specs.Cells.{Number, Four, Eight}
use Rattle.step_codec.specs.Payload.{code}
use Rattle.step_codec.proofs.Spellings.{four_cells}
use Rattle.step_codec.proofs.write.put_occurrence.Goals as goal

pub returns-clause-bytes : goal.returns-clause-bytes
returns-clause-bytes c =
    rw (c.put_64-2.ensures.bytes, c.put_32.ensures.bytes, c.put_64.ensures.bytes, c.put_8.ensures.bytes)
    (four_cells c.args.into.now.bytes (code c.args.tag) (Number Eight c.args.at.0) (Number Four c.args.inc) (Number Eight c.args.instant))
