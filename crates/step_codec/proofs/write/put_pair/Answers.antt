use Rattle.std.proofs.Common.{◌-◌}
use Rattle.step_codec.specs.Cells.{Number, Four, Eight}
use Rattle.step_codec.proofs.Spellings.{two_cells}
use Rattle.step_codec.proofs.write.put_pair.Goals as goal

pub returns-clause-bytes : goal.returns-clause-bytes
returns-clause-bytes c =
    let pair = c.args.pair in
    rw (c.put_32.ensures.bytes, c.put_64.ensures.bytes) (two_cells c.args.into.now.bytes (Number Eight pair.instant) (Number Four (pair.chosen - pair.instant)))
