use Rattle.std.proofs.Common.{[], ◌∷◌}
use Rattle.step_codec.specs.Cells.{Number, Four, Eight}
use Rattle.step_codec.specs.Payload.{code}
use Rattle.step_codec.proofs.Spellings.{row_and_one}
use Rattle.step_codec.proofs.write.put_complete.Goals as goal

pub returns-clause-bytes : goal.returns-clause-bytes
returns-clause-bytes c =
    rw (c.put_32.ensures.bytes, c.put_head.ensures.bytes)
    (row_and_one c.args.into.now.bytes (code 10 ∷ Number Eight c.args.at.0 ∷ []) (Number Four c.args.inc))
