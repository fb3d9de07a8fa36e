-- The accepted changes of a history, the newest first: writes, and removals of finished schedules. Schedules,
-- groups and their contents are read off these alone.
use Rattle.std.specs.Prelude.{ℕ, List, [], ◌∷◌}
use Rattle.sched_plain.specs.declared.write.Write.{Write}
use Rattle.sched_plain.specs.declared.step.Step.TheVariants as steps
use Rattle.sched_plain.specs.History.{History, beginning, based, ◌upon◌}

-- a write at a moment, or the removal of an incarnation at a moment
pub data Accepted : Type 0 where
  Written : ℕ → Write → Accepted
  Removed : ℕ → ℕ → Accepted

-- the accepted changes of a history
abbrev pub changes_of : History → List Accepted
changes_of beginning = []
changes_of (based b kept) = changes_of kept
changes_of (steps.Change at write upon h) = Written at.0 write ∷ changes_of h
changes_of (steps.Complete at inc upon h) = Removed at.0 inc ∷ changes_of h
changes_of (s upon h) = changes_of h
