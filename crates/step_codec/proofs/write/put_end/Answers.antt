use Rattle.std.proofs.Common.{[], ◌∷◌}
use Rattle.step_codec.specs.Cells.{Number, Two, Four, Eight}
use Rattle.step_codec.specs.Payload.{code, verdict_code}
use Rattle.step_codec.proofs.Spellings.{row_and_three}
use Rattle.step_codec.proofs.write.put_end.Goals as goal

pub returns-clause-bytes : goal.returns-clause-bytes
returns-clause-bytes c =
    rw (c.put_16-2.ensures.bytes, c.put_8.ensures.bytes, c.put_16.ensures.bytes, c.put_occurrence.ensures.bytes, c.verdict_code.ensures)
    (row_and_three c.args.into.now.bytes (code 8 ∷ Number Eight c.args.at.0 ∷ Number Four c.args.inc ∷ Number Eight c.args.instant ∷ []) (Number Two c.args.number) (code (verdict_code c.args.verdict)) (Number Two c.args.status))
