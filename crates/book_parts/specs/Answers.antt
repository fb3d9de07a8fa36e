-- What is answered of the ledger: the work of one entry, and of the first entry of a shard that gives some.
use Rattle.std.specs.Prelude.{◌≡◌, ℕ, Option, List, [], ◌∷◌}
use Rattle.std.specs.Option.{option_and_then, option_map}
use Rattle.plain_words.specs.Lists.{first_some}
use Rattle.sched_plain.specs.declared.entry.Filed.{Filed}
use Rattle.sched_plain.specs.declared.work.Work.{Work}
use Rattle.sched_plain.specs.declared.work.Work.TheVariants as works
use Rattle.sched_plain.specs.Work.{or_settled}
use Rattle.sched_plain.specs.Ledger.{LedgerCall}
use Rattle.sched_plain.specs.Entries.{filed}
use Rattle.ledger_rows.specs.declared.question.Question.{Question}
use Rattle.ledger_rows.specs.Wanting.{answers, IsFirstOf}

-- the work that the entry of an occurrence gives, if it has one
abbrev pub work_at : List LedgerCall → (ℕ → ℕ → Filed → Option Work) → ℕ → ℕ → Option Work
work_at calls asks inc instant = option_and_then (asks inc instant) (filed calls inc instant)

-- the same of what may be an occurrence
abbrev pub work_of : List LedgerCall → (ℕ → ℕ → Filed → Option Work) → Option (ℕ × ℕ) → Option Work
work_of calls asks found = option_and_then {T = ℕ × ℕ} (λ o. work_at calls asks o.0 o.1) found

-- the work of the first occurrence of a shard whose entry answers a question with yes
pub record IsFirstWork (calls : List LedgerCall) (question : Question) (shard : ℕ) (asks : ℕ → ℕ → Filed → Option Work) (work : Option Work) : Type 0 where
  pub found : Option (ℕ × ℕ)
  pub first : IsFirstOf (λ inc instant. answers question (filed calls inc instant)) shard found
  pub gives : work ≡ work_of calls asks found

-- the first of what may be to do: an incarnation to enter, an entry to act on, a schedule to complete, an attempt to wait
-- for
abbrev pub first_of : Option ℕ → Option Work → Option ℕ → Option Work → Work
first_of entering acting completing waiting =
    or_settled (first_some (option_map works.Enter entering ∷ acting ∷ option_map works.Complete completing ∷ waiting ∷ []))
