-- The ledger's calls of a history, the newest first. Entries, attempts and outcomes are read off these alone.
use Rattle.std.specs.Prelude.{ℕ, Bool, true, false, Option, Some, None, List, [], ◌∷◌, ◌++◌, map}
use Rattle.std.specs.Option.{option_and_then, option_map}
use Rattle.sched_plain.specs.declared.schedule.Policy.{Policy}
use Rattle.sched_plain.specs.declared.step.Pair.{Pair}
use Rattle.sched_plain.specs.declared.step.Step.TheVariants as steps
use Rattle.sched_plain.specs.declared.outcome.Reason.{Reason}
use Rattle.plain_words.specs.declared.verdict.Verdict.{Verdict}
use Rattle.sched_plain.specs.declared.row.Row.{Row}
use Rattle.sched_plain.specs.declared.write.Write.{Write}
use Rattle.sched_plain.specs.Base.{Loss}
use Rattle.sched_plain.specs.History.{History, beginning, based, ◌upon◌}
use Rattle.plain_words.specs.Lists.{head, only_if}
use Rattle.sched_plain.specs.Changes.{changes_of}
use Rattle.sched_plain.specs.Rows.{Deed, Nothing, Renews, Ends, deed_of, rows_of, incs_where, content_at}
use Rattle.sched_plain.specs.Leases.{holder, is_taking}

-- one call: entries of an incarnation with their policy; an attempt's begin and its end; a close; all open
-- entries of an incarnation cancelled; all live attempts of a shard, or of all, lost; one attempt that was lost in
-- the folded part
pub data LedgerCall : Type 0 where
  Entered : ℕ → Policy → List Pair → LedgerCall
  Begun : ℕ → ℕ → ℕ → ℕ → ℕ → LedgerCall
  Finished : ℕ → ℕ → ℕ → Verdict → ℕ → ℕ → LedgerCall
  Closed : ℕ → ℕ → Reason → LedgerCall
  Cancelled : ℕ → LedgerCall
  Lost : Option ℕ → ℕ → LedgerCall
  Missed : ℕ → ℕ → ℕ → ℕ → LedgerCall

-- the policy of the content that covers the first of these pairs; that of no entry where there is none
abbrev pub no_policy : Policy
no_policy = record { retries = 0; age = 0 }

abbrev pub policy_or_none : Option Policy → Policy
policy_or_none None = no_policy
policy_or_none (Some policy) = policy

abbrev pub policy_of : List Row → ℕ → List Pair → Policy
policy_of rows inc pairs =
    policy_or_none (option_and_then (λ pair. option_map (λ content. content.policy) (content_at rows inc pair.instant)) (head {A = Pair} pairs))

-- the deed ends its incarnation
abbrev pub is_end : Deed → Bool
is_end Nothing = false
is_end (Renews content) = false
is_end Ends = true

-- the incarnations that a write ends
abbrev pub ended_by : List Row → Write → List ℕ
ended_by rows write = incs_where (λ row. is_end (deed_of write row)) rows

-- the call of a loss in the folded part
abbrev pub missed_by : Loss → LedgerCall
missed_by loss = Missed loss.inc loss.instant loss.number loss.at

-- the ledger's calls of a history; the losses of a base are newer than all that it keeps
abbrev pub ledger_of : History → List LedgerCall
ledger_of beginning = []
ledger_of (based b kept) = map missed_by b.losses ++ ledger_of kept
ledger_of (steps.Boot at upon h) = Lost None at.0 ∷ ledger_of h
ledger_of (steps.Change at write upon h) = map Cancelled (ended_by (rows_of (changes_of h)) write) ++ ledger_of h
ledger_of (steps.Enter at inc pairs upon h) = Entered inc (policy_of (rows_of (changes_of h)) inc pairs) pairs ∷ ledger_of h
ledger_of (steps.Lease at shard worker epoch until upon h) =
    only_if (is_taking (holder h shard) epoch) (Lost (Some shard) at.0) ++ ledger_of h
ledger_of (steps.Begin at inc instant number epoch upon h) = Begun inc instant number epoch at.0 ∷ ledger_of h
ledger_of (steps.End at inc instant number verdict status upon h) = Finished inc instant number verdict status at.0 ∷ ledger_of h
ledger_of (steps.Close at inc instant reason upon h) = Closed inc instant reason ∷ ledger_of h
ledger_of (s upon h) = ledger_of h
