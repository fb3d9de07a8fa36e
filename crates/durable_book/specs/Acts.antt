-- What a call that names a step does with the history that its keeper stands for: it finds that history as it was, where a
-- step in doubt was kept or not, and adds its step or refuses.
use Rattle.std.specs.Prelude.{◌≡◌, ℕ, Option, Some}
use Rattle.outside.specs.Faults.{Rose}
use Rattle.sched_plain.specs.declared.step.Step.{Step}
use Rattle.sched_plain.specs.History.{History, ◌upon◌}
use Rattle.sched_plain.specs.Legal.{why, MayFollow}
use Rattle.sched_calls.specs.Serves.{Finds}
use Rattle.book_parts.specs.Stands.{calendar}
use Rattle.durable_book.specs.declared.denial.Denial.{Denial}
use Rattle.durable_book.specs.declared.denial.Denial.TheVariants as denials

-- the step that the call makes of the history that it found is upon that, and its answer is so of what it found
pub record Adds (doubt : Option Step) (step : History → Step) (Answer : History → Type 0) (h after : History) : Type 0 where
  pub found : History
  pub finds : Finds h doubt found
  pub added : after ≡ step found upon found
  pub answer : Answer found

-- the same of a call that answers nothing
abbrev pub Puts : Option Step → (History → Step) → History → History → Type 0
Puts doubt step h after = Adds doubt step (λ found. Unit {0}) h after

-- the history stays as it was found, and the refusal has its cause over it
pub record Refuses (doubt : Option Step) (Cause : History → Type 0) (h after : History) : Type 0 where
  pub finds : Finds h doubt after
  pub cause : Cause after

-- the cause for which a step is denied: it breaks this rule first; or it may follow, and has no room
abbrev pub IsCause : (Step → ℕ → ℕ → Type 0) → Step → Denial → History → Type 0
IsCause full s (denials.Rule broken) h = why calendar h s ≡ Some broken
IsCause full s (denials.Full end need) h = MayFollow calendar h s × full s end need
IsCause full s denials.DiskFault h = Unit {0}
IsCause full s denials.OutOfMemory h = Unit {0}

-- a call of the disk is said to have failed only where the count of its faults has risen
abbrev pub DiskRose : ℕ → ℕ → Denial → Type 0
DiskRose before now (denials.Rule broken) = Unit {0}
DiskRose before now (denials.Full end need) = Unit {0}
DiskRose before now denials.DiskFault = Rose before now
DiskRose before now denials.OutOfMemory = Unit {0}
