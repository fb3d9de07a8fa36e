-- Laws of keepers over a journal.
use Rattle.std.specs.Prelude.{◌≡◌, ℕ, length}
use Rattle.plain_words.specs.declared.moment.Moment.{Moment}
use Rattle.plain_words.specs.declared.verdict.Verdict.{Verdict}
use Rattle.sched_plain.specs.declared.step.Step.TheVariants as steps
use Rattle.step_codec.specs.Payload.{payload_of, frame}
use Rattle.step_journal.specs.Needs.{end_size}

-- an End is as long as the room that is kept for it
abbrev pub EndsAreShort : Type 0
EndsAreShort =
    (at : Moment) (inc instant number : ℕ) (verdict : Verdict) (status : ℕ)
    → length (frame (payload_of (steps.End at inc instant number verdict status))) ≡ end_size
