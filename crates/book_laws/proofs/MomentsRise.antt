-- The moments of a legal history never fall.
use Rattle.std.proofs.Common.{◌≡◌, ℕ, ◌+◌, ◌≤◌, Some, ap, le_trans, inl, inr, arith}
use Rattle.std.proofs.lemmas.Bool.{cases_eq}
use Rattle.sched_plain.specs.declared.step.Step.{Step}
use Rattle.sched_plain.specs.History.{History, beginning, based, ◌upon◌, count, step_at}
use Rattle.sched_plain.specs.Moments.{at_of, moment}
use Rattle.expressions.specs.Calendar.{Calendar}
use Rattle.sched_plain.specs.Legal.{IsLegal}
use Rattle.book_laws.specs.MomentLaws.{MomentsNeverFall}
use Rattle.book_laws.proofs.Tables.{moment_holds}
use Rattle.book_laws.proofs.Places.{found_top, found_below, place_bound}

-- no step is later than the history
pub at_bound : (c : Calendar) (h : History) → IsLegal c h → (place : ℕ) (t : Step) → step_at h place ≡ Some t → at_of t ≤ moment h
at_bound c beginning legal place t e = cc
at_bound c (based b kept) legal place t e = absurd legal
at_bound c (s upon h) legal place t e =
    elim (cases_eq place (count h + 1)) [
      | inl top ↦ let same : at_of s ≡ at_of t = ap at_of (found_top s t h place top e) in omega arith
      | inr below ↦ le_trans (at_bound c h legal.0 place t (found_below s t h place below e)) (moment_holds c h s legal.1)
    ]

pub moments_rise : MomentsNeverFall
moments_rise c beginning legal place later s t at_place at_later le = cc
moments_rise c (based b kept) legal place later s t at_place at_later le = absurd legal
moments_rise c (newest upon h) legal place later s t at_place at_later le =
    elim (cases_eq later (count h + 1)) [
      | inl top ↦
          let same : at_of newest ≡ at_of t = ap at_of (found_top newest t h later top at_later) in
          let bound : at_of s ≤ at_of newest = at_bound c (newest upon h) legal place s at_place in
          omega arith
      | inr below ↦
          let before : step_at h later ≡ Some t = found_below newest t h later below at_later in
          let under : later ≤ count h = place_bound c h legal.0 later t before in
          let lower : place ≡ count h + 1 → ⊥ = λ top. omega arith in
          moments_rise c h legal.0 place later s t (found_below newest s h place lower at_place) before le
    ]
