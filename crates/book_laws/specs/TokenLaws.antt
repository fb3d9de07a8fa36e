-- The client tokens of a legal history.
use Rattle.std.specs.Prelude.{◌≡◌, ℕ, Some, List}
use Rattle.plain_words.specs.declared.moment.Moment.{Moment}
use Rattle.sched_plain.specs.declared.step.Step.TheVariants as steps
use Rattle.sched_plain.specs.declared.write.Write.{Write}
use Rattle.sched_plain.specs.History.{History, step_at}
use Rattle.sched_plain.specs.Tokens.{token_of}
use Rattle.expressions.specs.Calendar.{Calendar}
use Rattle.sched_plain.specs.Legal.{IsLegal}

-- the step at this place is a Change with this token
abbrev pub HasToken : History → ℕ → List ℕ → Type 0
HasToken h place token =
    (at : Moment) × (write : Write) × (step_at h place ≡ Some (steps.Change at write)) × (token_of write ≡ Some token)

-- two Changes with one token are one and the same
abbrev pub TokensStandOnce : Type 0
TokensStandOnce =
    (c : Calendar) (h : History) → IsLegal c h → (token : List ℕ) (one other : ℕ)
    → HasToken h one token → HasToken h other token → one ≡ other
