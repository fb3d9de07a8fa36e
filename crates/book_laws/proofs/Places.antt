-- Steps by their places.
use Rattle.std.proofs.Common.{◌≡◌, ℕ, ◌+◌, ◌≤◌, cond, Some, ap, sym, ◌∙◌, inl, inr, arith}
use Rattle.std.proofs.lemmas.Bool.{cases_eq, eq-eqb, ne_eqb}
use Rattle.sched_plain.specs.declared.step.Step.{Step}
use Rattle.expressions.specs.Calendar.{Calendar}
use Rattle.sched_plain.specs.Legal.{IsLegal}
use Rattle.sched_plain.specs.History.{History, beginning, based, ◌upon◌, count, step_at}
use Rattle.plain_words.proofs.Options.{some_same}

-- the step at the last place is the newest
pub step_top : (s : Step) (h : History) (place : ℕ) → place ≡ count h + 1 → step_at (s upon h) place ≡ Some s
step_top s h place top = ap (λ b. cond b (Some s) (step_at h place)) (eq-eqb place (count h + 1) top)

-- at any other place it is one of the steps before
pub step_below : (s : Step) (h : History) (place : ℕ) → (place ≡ count h + 1 → ⊥) → step_at (s upon h) place ≡ step_at h place
step_below s h place below = ap (λ b. cond b (Some s) (step_at h place)) (ne_eqb place (count h + 1) below)

-- the newest step, found at its place
pub found_top : (s t : Step) (h : History) (place : ℕ) → place ≡ count h + 1 → step_at (s upon h) place ≡ Some t → s ≡ t
found_top s t h place top e = some_same s t (sym (step_top s h place top) ∙ e)

-- an older step, found at its place
pub found_below : (s t : Step) (h : History) (place : ℕ) → (place ≡ count h + 1 → ⊥) → step_at (s upon h) place ≡ Some t → step_at h place ≡ Some t
found_below s t h place below e = sym (step_below s h place below) ∙ e

-- a place where a step stands is at most the count
pub place_bound : (c : Calendar) (h : History) → IsLegal c h → (place : ℕ) (t : Step) → step_at h place ≡ Some t → place ≤ count h
place_bound c beginning legal place t e = cc
place_bound c (based b kept) legal place t e = absurd legal
place_bound c (s upon h) legal place t e =
    elim (cases_eq place (count h + 1)) [
      | inl top ↦ omega arith
      | inr below ↦ let under : place ≤ count h = place_bound c h legal.0 place t (found_below s t h place below e) in omega arith
    ]
