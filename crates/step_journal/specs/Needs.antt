-- How many bytes of the file a step needs. An attempt in the air wants an End, and its room is kept.
use Rattle.std.specs.Prelude.{ℕ, ◌+◌, ◌-◌, ◌*◌, ◌^◌, min, length}
use Rattle.sched_plain.specs.declared.step.Step.{Step}
use Rattle.sched_plain.specs.declared.step.Step.TheVariants as steps
use Rattle.sched_plain.specs.History.{History, ◌upon◌}
use Rattle.live_attempts.specs.CountLaws.{live_count}
use Rattle.step_codec.specs.Payload.{payload_of}

-- how many bytes the record of an End has, with its gate
abbrev pub end_size : ℕ
end_size = 31

-- how many attempts are in the air once a step stands upon a history; an End brings its own down
abbrev pub aloft_after : History → Step → ℕ
aloft_after h (steps.End at inc instant number verdict status) = live_count h - 1
aloft_after h s = live_count (s upon h)

-- how many bytes behind the end a step needs, with so many attempts in the air once it is taken: its record, the next gate, and
-- an End for each of them
abbrev pub need_with : Step → ℕ → ℕ
need_with s aloft = 5 + length (payload_of s) + 1 + end_size * aloft

-- a need as a fault tells it: what does not fit 64 bits is told as the greatest number that does
abbrev pub told : ℕ → ℕ
told need = min need (2 ^ 64 - 1)
