-- The first entry of a shard that gives work, found by its incarnation and instant.
use Rattle.std.specs.Prelude.{◌≡◌, ℕ, Option}
use Rattle.std.specs.Option.{option_and_then}
use Rattle.sched_plain.specs.declared.entry.Filed.{Filed}
use Rattle.sched_plain.specs.declared.work.Work.{Work}
use Rattle.sched_plain.specs.History.{History}
use Rattle.expressions.specs.Calendar.{Calendar}
use Rattle.sched_plain.specs.Ledger.{ledger_of}
use Rattle.sched_plain.specs.Entries.{filed}
use Rattle.sched_plain.specs.Seen.{seen}
use Rattle.sched_plain.specs.Work.{act_of, live_of, first_entry}
use Rattle.sched_plain.specs.Legal.{IsLegal}
use Rattle.ledger_rows.specs.declared.question.Question.{Question}
use Rattle.ledger_rows.specs.declared.question.Question.TheVariants as questions
use Rattle.ledger_rows.specs.Wanting.{answers, IsFirstOf}
use Rattle.work_order.specs.DateLaws.{shard_incs}

-- of the occurrences of a history in a shard whose entry answers a question with yes this is the first, or there is none
abbrev pub IsFirstEntry : History → Question → ℕ → Option (ℕ × ℕ) → Type 0
IsFirstEntry h question shard found = IsFirstOf (λ inc instant. answers question (filed (ledger_of h) inc instant)) shard found

-- the work that the entry of an occurrence gives
abbrev pub work_of_entry : History → (ℕ → ℕ → Filed → Option Work) → Option (ℕ × ℕ) → Option Work
work_of_entry h question found =
    option_and_then {T = ℕ × ℕ} (λ o. option_and_then (question o.0 o.1) (filed (ledger_of h) o.0 o.1)) found

-- the first entry of a shard that is to be closed or begun gives the work that a search over all entries finds
abbrev pub DueIsFirst : Type 0
DueIsFirst =
    (c : Calendar) (h : History) → IsLegal c h → (shard t : ℕ) (found : Option (ℕ × ℕ)) → IsFirstEntry h (questions.ToAct t) shard found
    → first_entry (seen c h).ledger (act_of t) (shard_incs h shard) ≡ work_of_entry h (act_of t) found

-- so does the first one whose attempt is in the air, at any moment
abbrev pub LiveIsFirst : Type 0
LiveIsFirst =
    (c : Calendar) (h : History) → IsLegal c h → (shard t : ℕ) (found : Option (ℕ × ℕ)) → IsFirstEntry h questions.ToWait shard found
    → first_entry (seen c h).ledger (live_of t) (shard_incs h shard) ≡ work_of_entry h (live_of t) found
