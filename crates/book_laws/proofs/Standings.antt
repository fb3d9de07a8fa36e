-- What a standing says of the entry that has it.
use Rattle.std.proofs.Common.{◌≡◌, ◌⊎◌, inl, inr, ℕ, nat_lt, Bool, true, false, Option, Some, None, [], ◌∷◌, refl, sym, option_map, not, ap}
use Rattle.std.proofs.lemmas.Bool.{not-false}
use Rattle.sched_plain.specs.declared.entry.Entry.{Entry}
use Rattle.sched_plain.specs.declared.schedule.Policy.{Policy}
use Rattle.sched_plain.specs.declared.standing.Standing.{Standing}
use Rattle.sched_plain.specs.declared.standing.Standing.TheVariants as standings
use Rattle.sched_plain.specs.declared.outcome.Outcome.{Outcome}
use Rattle.sched_plain.specs.declared.outcome.Reason.{Reason}
use Rattle.sched_plain.specs.declared.outcome.Reason.TheVariants as reasons
use Rattle.plain_words.specs.Lists.{first_some, when}
use Rattle.sched_plain.specs.Attempts.{is_live_last}
use Rattle.sched_plain.specs.Standing.{earliest, is_used_up, is_past_age, or_due, standing}
use Rattle.sched_plain.specs.Rules.{same_reason, unless_exhausted}
use Rattle.plain_words.proofs.ListLemmas.{when_none}

-- the table of standings over what its tests found
abbrev pub table_of : Option Outcome → Bool → Bool → Bool → Bool → ℕ → Standing
table_of outcome live used past wait until =
    or_due (first_some (
    option_map standings.Decided outcome
    ∷ when live standings.Live
    ∷ when used (standings.Exhausted reasons.Attempts)
    ∷ when past (standings.Exhausted reasons.Age)
    ∷ when wait (standings.Waiting until)
    ∷ []))

-- nothing in the table holds
pub record IsDue (outcome : Option Outcome) (live used past wait : Bool) : Type 0 where
  pub undecided : outcome ≡ None
  pub still : live ≡ false
  pub fewer : used ≡ false
  pub younger : past ≡ false
  pub come : wait ≡ false

due_table : (outcome : Option Outcome) (live used past wait : Bool) (until : ℕ) → table_of outcome live used past wait until ≡ standings.Due
    → IsDue outcome live used past wait
due_table (Some outcome) live used past wait until e = let clash : ⊥ = cc in absurd clash
due_table None true used past wait until e = let clash : ⊥ = cc in absurd clash
due_table None false true past wait until e = let clash : ⊥ = cc in absurd clash
due_table None false false true wait until e = let clash : ⊥ = cc in absurd clash
due_table None false false false true until e = let clash : ⊥ = cc in absurd clash
due_table None false false false false until e = record { undecided = refl; still = refl; fewer = refl; younger = refl; come = refl }

-- the entry is neither decided nor live, and is used up or past its age
pub record IsSpent (outcome : Option Outcome) (live used past : Bool) : Type 0 where
  pub undecided : outcome ≡ None
  pub still : live ≡ false
  pub spent : (used ≡ true) ⊎ (past ≡ true)

exhausted_table : (outcome : Option Outcome) (live used past wait : Bool) (until : ℕ) (reason : Reason)
    → table_of outcome live used past wait until ≡ standings.Exhausted reason → IsSpent outcome live used past
exhausted_table (Some outcome) live used past wait until reason e = let clash : ⊥ = cc in absurd clash
exhausted_table None true used past wait until reason e = let clash : ⊥ = cc in absurd clash
exhausted_table None false true past wait until reason e = record { undecided = refl; still = refl; spent = inl refl }
exhausted_table None false false true wait until reason e = record { undecided = refl; still = refl; spent = inr refl }
exhausted_table None false false false true until reason e = let clash : ⊥ = cc in absurd clash
exhausted_table None false false false false until reason e = let clash : ⊥ = cc in absurd clash

-- an entry that is due
pub due_says : (entry : Entry) (policy : Policy) (now : ℕ) → standing entry policy now ≡ standings.Due
    → IsDue entry.outcome (is_live_last entry.last) (is_used_up entry policy) (is_past_age entry policy now) (nat_lt now (earliest entry))
due_says entry policy now e =
    due_table entry.outcome (is_live_last entry.last) (is_used_up entry policy) (is_past_age entry policy now) (nat_lt now (earliest entry)) (earliest entry) e

-- an entry that is exhausted
pub exhausted_says : (entry : Entry) (policy : Policy) (now : ℕ) (reason : Reason) → standing entry policy now ≡ standings.Exhausted reason
    → IsSpent entry.outcome (is_live_last entry.last) (is_used_up entry policy) (is_past_age entry policy now)
exhausted_says entry policy now reason e =
    exhausted_table entry.outcome (is_live_last entry.last) (is_used_up entry policy) (is_past_age entry policy now)
    (nat_lt now (earliest entry)) (earliest entry) reason e

-- what the rule of Close asks for
same_reason_is : (one other : Reason) → same_reason one other ≡ true → one ≡ other
same_reason_is reasons.Attempts reasons.Attempts e = refl
same_reason_is reasons.Attempts reasons.Age e = cc
same_reason_is reasons.Age reasons.Attempts e = cc
same_reason_is reasons.Age reasons.Age e = refl

pub exhausted_is : (reason : Reason) (s : Standing) → unless_exhausted reason s ≡ None → s ≡ standings.Exhausted reason
exhausted_is reason (standings.Decided outcome) e = cc
exhausted_is reason standings.Live e = cc
exhausted_is reason (standings.Exhausted found) e =
    let same : reason ≡ found = same_reason_is reason found (not-false (same_reason reason found) (when_none (not (same_reason reason found)) _ e)) in
    ap standings.Exhausted (sym same)
exhausted_is reason (standings.Waiting until) e = cc
exhausted_is reason standings.Due e = cc
