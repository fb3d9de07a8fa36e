-- The moments of a legal history.
use Rattle.std.specs.Prelude.{◌≡◌, ℕ, ◌≤◌, Some}
use Rattle.sched_plain.specs.declared.step.Step.{Step}
use Rattle.sched_plain.specs.History.{History, step_at}
use Rattle.sched_plain.specs.Moments.{at_of}
use Rattle.expressions.specs.Calendar.{Calendar}
use Rattle.sched_plain.specs.Legal.{IsLegal}

-- of two steps the one at the later place has no earlier moment
abbrev pub MomentsNeverFall : Type 0
MomentsNeverFall =
    (c : Calendar) (h : History) → IsLegal c h → (place later : ℕ) (s t : Step)
    → step_at h place ≡ Some s → step_at h later ≡ Some t → place ≤ later → at_of s ≤ at_of t
