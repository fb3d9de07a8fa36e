-- What the standing of an entry says of its numbers.
use Rattle.std.proofs.Common.{◌≡◌, ℕ, ◌+◌, ◌≤◌, Bool, true, false, Option, Some, None, [], ◌∷◌, option_map, refl, arith}
use Rattle.std.specs.Prelude.{nat_le, nat_lt}
use Rattle.std.proofs.lemmas.Bool.Decides.{nat_tests}
use Rattle.sched_plain.specs.declared.entry.Filed.{Filed}
use Rattle.sched_plain.specs.declared.outcome.Outcome.{Outcome}
use Rattle.sched_plain.specs.declared.outcome.Reason.TheVariants as reasons
use Rattle.sched_plain.specs.declared.standing.Standing.{Standing}
use Rattle.sched_plain.specs.declared.standing.Standing.TheVariants as standings
use Rattle.plain_words.specs.Lists.{first_some, when}
use Rattle.sched_plain.specs.Attempts.{is_live_last}
use Rattle.sched_plain.specs.Standing.{standing_of, or_due, is_used_up, is_past_age, earliest}
use Rattle.sched_plain.specs.Report.{is_due}

-- the standing by its tests
abbrev pub stands_by : Option Outcome → Bool → Bool → Bool → Bool → ℕ → Standing
stands_by outcome live used past waits until =
    or_due (first_some (option_map standings.Decided outcome ∷ when live standings.Live ∷ when used (standings.Exhausted reasons.Attempts)
    ∷ when past (standings.Exhausted reasons.Age) ∷ when waits (standings.Waiting until) ∷ []))

-- what is due is open, has no attempt in the air, and one left
pub record DueTests (outcome : Option Outcome) (live used : Bool) : Type 0 where
  pub open_is : outcome ≡ None
  pub landed : live ≡ false
  pub left : used ≡ false

due_tests : (outcome : Option Outcome) (live used past waits : Bool) (until : ℕ) → is_due (stands_by outcome live used past waits until) ≡ true → DueTests outcome live used
due_tests (Some o) live used past waits until e = let clash : ⊥ = cc in absurd clash
due_tests None true used past waits until e = let clash : ⊥ = cc in absurd clash
due_tests None false true past waits until e = let clash : ⊥ = cc in absurd clash
due_tests None false false past waits until e = record { open_is = refl; landed = refl; left = refl }

pub due_is : (f : Filed) (t : ℕ) → is_due (standing_of f t) ≡ true → DueTests f.entry.outcome (is_live_last f.entry.last) (is_used_up f.entry f.policy)
due_is f t due = due_tests f.entry.outcome (is_live_last f.entry.last) (is_used_up f.entry f.policy) (is_past_age f.entry f.policy t) (nat_lt t (earliest f.entry)) (earliest f.entry) due

-- what is due has used no more attempts than its retries
pub due_few : (f : Filed) (t : ℕ) → is_due (standing_of f t) ≡ true → f.entry.used ≤ f.policy.retries
due_few f t due = let left : nat_le (1 + f.policy.retries) f.entry.used ≡ false = (due_is f t due).left in grind (arith, nat_tests)
