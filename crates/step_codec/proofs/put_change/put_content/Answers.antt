use Rattle.step_codec.specs.Parts.{target_of, texts_of, timing_of}
use Rattle.step_codec.proofs.Spellings.{three_parts}
use Rattle.step_codec.proofs.put_change.put_content.Goals as goal

pub returns-clause-bytes : goal.returns-clause-bytes
returns-clause-bytes c =
    rw (c.put_target.ensures.bytes, c.put_timing.ensures.bytes, c.put_texts.ensures.bytes)
    (three_parts c.args.into.now.bytes (texts_of c.args.content.now) (timing_of c.args.content.now) (target_of c.args.content.now))
