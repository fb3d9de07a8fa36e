use Rattle.std.proofs.Common.{[], ◌∷◌}
use Rattle.step_codec.specs.Cells.{Number, Four, Eight}
use Rattle.step_codec.specs.Payload.{code, reason_code}
use Rattle.step_codec.proofs.Spellings.{row_and_one}
use Rattle.step_codec.proofs.write.put_close.Goals as goal

pub returns-clause-bytes : goal.returns-clause-bytes
returns-clause-bytes c =
    rw (c.put_8.ensures.bytes, c.put_occurrence.ensures.bytes, c.reason_code.ensures)
    (row_and_one c.args.into.now.bytes (code 9 ∷ Number Eight c.args.at.0 ∷ Number Four c.args.inc ∷ Number Eight c.args.instant ∷ []) (code (reason_code c.args.reason)))
