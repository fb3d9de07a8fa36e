-- The history of the service: a beginning, and one step upon another. The newest step stands outermost, and
-- places count from 1, from the oldest step on. In the place of its beginning a history may have a base: what is
-- told of the part that was folded away, and the history of the steps that were kept.
use Rattle.std.specs.Prelude.{ℕ, ◌+◌, ◌==◌, nat_lt, if◌then◌else◌, Option, Some, None, List, [], ◌∷◌}
use Rattle.sched_plain.specs.declared.step.Step.{Step}
use Rattle.sched_plain.specs.Base.{Base, kept_at}

infixr 55 ◌upon◌
-- what happened, up to now
pub data History : Type 0 where
  beginning : History
  based : Base → History → History
  ◌upon◌ : Step → History → History

-- how many steps the history has, those that were folded away among them
abbrev pub count : History → ℕ
count beginning = 0
count (based b kept) = b.size
count (s upon h) = count h + 1

-- the step at a place: none where it was folded away
abbrev pub step_at : History → ℕ → Option Step
step_at beginning place = None
step_at (based b kept) place = step_at kept (kept_at b.places place)
step_at (s upon h) place = if place == count h + 1 then Some s else step_at h place

-- the history of the first n steps: no less than its base
abbrev pub first : ℕ → History → History
first n beginning = beginning
first n (based b kept) = based b kept
first n (s upon h) = if nat_lt n (count h + 1) then first n h else s upon h

-- the history with these steps upon it, the oldest of them first
abbrev pub grown : History → List Step → History
grown h [] = h
grown h (s ∷ more) = grown (s upon h) more

-- the second history is the first with further steps upon it
pub data Extends (h : History) : History → Type 0 where
  as_it_was : Extends h h
  with_step : {later : History} (s : Step) → Extends h later → Extends h (s upon later)
