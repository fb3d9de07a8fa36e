-- The outcomes of the entries of a history.
use Rattle.std.specs.Prelude.{◌≡◌, ℕ, ◌+◌, Option, Some, None}
use Rattle.std.specs.Option.{option_and_then}
use Rattle.plain_words.specs.declared.moment.Moment.{Moment}
use Rattle.sched_plain.specs.declared.step.Step.TheVariants as steps
use Rattle.sched_plain.specs.declared.outcome.Outcome.{Outcome}
use Rattle.sched_plain.specs.declared.outcome.Reason.{Reason}
use Rattle.sched_plain.specs.History.{History, ◌upon◌, Extends, first}
use Rattle.expressions.specs.Calendar.{Calendar}
use Rattle.sched_plain.specs.Ledger.{ledger_of}
use Rattle.sched_plain.specs.Entries.{filed, outcome_of}
use Rattle.sched_plain.specs.Legal.{IsLegal}

-- how the entry of an occurrence is decided: not at all where it is open, or where there is none
abbrev pub decision : History → ℕ → ℕ → Option Outcome
decision h inc instant = option_and_then (λ f. f.entry.outcome) (filed (ledger_of h) inc instant)

-- an outcome stays, whatever steps follow
abbrev pub OutcomesStay : Type 0
OutcomesStay =
    (h later : History) → Extends h later → (inc instant : ℕ) (outcome : Outcome)
    → decision h inc instant ≡ Some outcome → decision later inc instant ≡ Some outcome

-- the step behind the first n decides the entry
pub record DecidesAt (h : History) (n inc instant : ℕ) : Type 0 where
  pub before : decision (first n h) inc instant ≡ None
  pub outcome : Outcome
  pub after : decision (first (n + 1) h) inc instant ≡ Some outcome

-- two steps that decide one entry are one and the same
abbrev pub DecidedOnce : Type 0
DecidedOnce =
    (h : History) (inc instant one other : ℕ) → DecidesAt h one inc instant → DecidesAt h other inc instant → one ≡ other

-- a Close finds an entry that is not decided, and decides it by its reason
pub record CloseDecides (h : History) (at : Moment) (inc instant : ℕ) (reason : Reason) : Type 0 where
  pub before : decision h inc instant ≡ None
  pub after : decision (steps.Close at inc instant reason upon h) inc instant ≡ Some (outcome_of reason)

-- each Close of a legal history decides its entry
abbrev pub ClosesDecide : Type 0
ClosesDecide =
    (c : Calendar) (h : History) (at : Moment) (inc instant : ℕ) (reason : Reason)
    → IsLegal c (steps.Close at inc instant reason upon h) → CloseDecides h at inc instant reason
