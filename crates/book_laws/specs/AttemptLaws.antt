-- The attempts of a legal history.
use Rattle.std.specs.Prelude.{◌≡◌, ℕ, ◌+◌, ◌≤◌, Option, Some, None, List, map}
use Rattle.sched_plain.specs.declared.entry.Filed.{Filed}
use Rattle.plain_words.specs.declared.moment.Moment.{Moment}
use Rattle.sched_plain.specs.declared.step.Step.TheVariants as steps
use Rattle.sched_plain.specs.History.{History, step_at}
use Rattle.plain_words.specs.Lists.{numbers}
use Rattle.expressions.specs.Calendar.{Calendar}
use Rattle.sched_plain.specs.Ledger.{ledger_of}
use Rattle.sched_plain.specs.Entries.{filed}
use Rattle.sched_plain.specs.Attempts.{attempts, used}
use Rattle.sched_plain.specs.Legal.{IsLegal}

-- the numbers of the attempts of an occurrence, in the order in which they were begun
abbrev pub numbers_of : History → ℕ → ℕ → List ℕ
numbers_of h inc instant = map (λ attempt. attempt.number) (attempts (ledger_of h) inc instant)

-- the numbers of the attempts of an occurrence are 1, 2 and so on up to how many were begun
abbrev pub NumbersCount : Type 0
NumbersCount =
    (c : Calendar) (h : History) → IsLegal c h → (inc instant : ℕ)
    → numbers_of h inc instant ≡ numbers 1 (used (ledger_of h) inc instant)

-- the step at this place begins the attempt of this number
abbrev pub BeginsAt : History → ℕ → ℕ → ℕ → ℕ → Type 0
BeginsAt h place inc instant number =
    (at : Moment) × (epoch : ℕ) × (step_at h place ≡ Some (steps.Begin at inc instant number epoch))

-- two Begins of one occurrence and number are one and the same
abbrev pub BeginsDiffer : Type 0
BeginsDiffer =
    (c : Calendar) (h : History) → IsLegal c h → (inc instant number one other : ℕ)
    → BeginsAt h one inc instant number → BeginsAt h other inc instant number → one ≡ other

-- how many attempts the policy of an entry allows: none where there is no entry
abbrev pub allowed : Option Filed → ℕ
allowed None = 0
allowed (Some f) = 1 + f.policy.retries

-- no more attempts of an occurrence were begun than its entry's policy allows
abbrev pub AttemptsAreAllowed : Type 0
AttemptsAreAllowed =
    (c : Calendar) (h : History) → IsLegal c h → (inc instant : ℕ)
    → used (ledger_of h) inc instant ≤ allowed (filed (ledger_of h) inc instant)

-- how many attempts the entry counts
abbrev pub counted : Option Filed → ℕ
counted None = 0
counted (Some f) = f.entry.used

-- an entry counts the attempts that were begun
abbrev pub EntriesCount : Type 0
EntriesCount =
    (c : Calendar) (h : History) → IsLegal c h → (inc instant : ℕ)
    → used (ledger_of h) inc instant ≡ counted (filed (ledger_of h) inc instant)
