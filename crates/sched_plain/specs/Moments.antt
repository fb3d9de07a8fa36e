-- The moments of steps and histories: whole seconds since 1970-01-01T00:00:00Z.
use Rattle.std.specs.Prelude.{ℕ}
pub use Rattle.plain_words.specs.Moments.{last_moment, moment_of}
use Rattle.sched_plain.specs.declared.step.Step.{Step}
use Rattle.sched_plain.specs.declared.step.Step.TheVariants as steps
use Rattle.sched_plain.specs.History.{History, beginning, based, ◌upon◌}

-- the moment that a step carries
abbrev pub at_of : Step → ℕ
at_of (steps.Boot at) = at.0
at_of (steps.Zone at name bytes) = at.0
at_of (steps.Change at write) = at.0
at_of (steps.Enter at inc pairs) = at.0
at_of (steps.Lease at shard worker epoch until) = at.0
at_of (steps.Release at shard worker epoch) = at.0
at_of (steps.Begin at inc instant number epoch) = at.0
at_of (steps.End at inc instant number verdict status) = at.0
at_of (steps.Close at inc instant reason) = at.0
at_of (steps.Complete at inc) = at.0
at_of (steps.Swept at shard) = at.0

-- the moment of a history: that of its last step, or of its base, 0 where it has none
abbrev pub moment : History → ℕ
moment beginning = 0
moment (based b kept) = b.at
moment (s upon h) = at_of s
