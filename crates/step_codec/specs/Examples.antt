-- The format on worked examples.
use Rattle.std.specs.Prelude.{◌≡◌, [], ◌∷◌, Some, None}
use Rattle.plain_words.specs.Moments.{moment_of}
use Rattle.sched_plain.specs.declared.step.Step.{Step}
use Rattle.sched_plain.specs.declared.step.Step.TheVariants as steps
use Rattle.step_codec.specs.declared.fault.StepFault.TheVariants as faults
use Rattle.step_codec.specs.Faults.{first_fault}
use Rattle.step_codec.specs.Payload.{frame, payload_of}

-- an attempt at 1000 of the occurrence at 1000 of incarnation 1
abbrev pub first_begin : Step
first_begin = steps.Begin (moment_of 1000) 1 1000 1 1

-- the frame of it, and the first faults of payloads
pub record FormatOnExamples : Type 0 where
  pub begin : frame (payload_of first_begin) ≡
      0 ∷ 0 ∷ 0 ∷ 31 ∷ 7 ∷ 0 ∷ 0 ∷ 0 ∷ 0 ∷ 0 ∷ 0 ∷ 3 ∷ 232 ∷ 0 ∷ 0 ∷ 0 ∷ 1 ∷ 0 ∷ 0 ∷ 0 ∷ 0 ∷ 0 ∷ 0 ∷ 3 ∷ 232 ∷ 0 ∷ 1
      ∷ 0 ∷ 0 ∷ 0 ∷ 0 ∷ 0 ∷ 0 ∷ 0 ∷ 1 ∷ 0 ∷ []
  pub read : first_fault (payload_of first_begin) ≡ None
  pub nothing : first_fault [] ≡ Some faults.Short
  pub no_tag : first_fault (12 ∷ []) ≡ Some (faults.BadTag 0)
  pub cut_moment : first_fault (1 ∷ 255 ∷ []) ≡ Some faults.Short
  pub late_moment : first_fault (1 ∷ 255 ∷ 0 ∷ 0 ∷ 0 ∷ 0 ∷ 0 ∷ 0 ∷ 0 ∷ []) ≡ Some (faults.BadField 1)
  pub no_shard : first_fault (11 ∷ 0 ∷ 0 ∷ 0 ∷ 0 ∷ 0 ∷ 0 ∷ 0 ∷ 0 ∷ 8 ∷ []) ≡ Some (faults.BadField 9)
  pub long : first_fault (1 ∷ 0 ∷ 0 ∷ 0 ∷ 0 ∷ 0 ∷ 0 ∷ 0 ∷ 0 ∷ 0 ∷ []) ≡ Some (faults.Long 9)
