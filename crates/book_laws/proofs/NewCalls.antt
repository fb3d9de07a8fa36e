-- The calls of the ledger that a step makes, and what holds of a whole history because it holds of each call.
use Rattle.std.proofs.Common.{◌≡◌, List, [], ◌∷◌, ◌++◌, Some, None, map, refl}
use Rattle.sched_plain.specs.declared.step.Step.{Step}
use Rattle.sched_plain.specs.declared.step.Step.TheVariants as steps
use Rattle.sched_plain.specs.History.{History, ◌upon◌}
use Rattle.plain_words.specs.Lists.{only_if}
use Rattle.sched_plain.specs.Changes.{changes_of}
use Rattle.sched_plain.specs.Rows.{rows_of}
use Rattle.sched_plain.specs.Leases.{holder, is_taking}
use Rattle.sched_plain.specs.Ledger.{LedgerCall, Entered, Begun, Finished, Closed, Cancelled, Lost, policy_of, ended_by, ledger_of}

abbrev pub new_calls : History → Step → List LedgerCall
new_calls h (steps.Boot at) = Lost None at.0 ∷ []
new_calls h (steps.Zone at name bytes) = []
new_calls h (steps.Change at write) = map Cancelled (ended_by (rows_of (changes_of h)) write)
new_calls h (steps.Enter at inc pairs) = Entered inc (policy_of (rows_of (changes_of h)) inc pairs) pairs ∷ []
new_calls h (steps.Lease at shard worker epoch until) = only_if (is_taking (holder h shard) epoch) (Lost (Some shard) at.0)
new_calls h (steps.Release at shard worker epoch) = []
new_calls h (steps.Begin at inc instant number epoch) = Begun inc instant number epoch at.0 ∷ []
new_calls h (steps.End at inc instant number verdict status) = Finished inc instant number verdict status at.0 ∷ []
new_calls h (steps.Close at inc instant reason) = Closed inc instant reason ∷ []
new_calls h (steps.Complete at inc) = []
new_calls h (steps.Swept at shard) = []

pub ledger_is : (h : History) (s : Step) → ledger_of (s upon h) ≡ new_calls h s ++ ledger_of h
ledger_is h (steps.Boot at) = refl
ledger_is h (steps.Zone at name bytes) = refl
ledger_is h (steps.Change at write) = refl
ledger_is h (steps.Enter at inc pairs) = refl
ledger_is h (steps.Lease at shard worker epoch until) = refl
ledger_is h (steps.Release at shard worker epoch) = refl
ledger_is h (steps.Begin at inc instant number epoch) = refl
ledger_is h (steps.End at inc instant number verdict status) = refl
ledger_is h (steps.Close at inc instant reason) = refl
ledger_is h (steps.Complete at inc) = refl
ledger_is h (steps.Swept at shard) = refl

-- what each call keeps, any calls keep
pub calls_keep : (P : List LedgerCall → Type 0) → ((call : LedgerCall) (before : List LedgerCall) → P before → P (call ∷ before))
    → (calls before : List LedgerCall) → P before → P (calls ++ before)
calls_keep P keep [] before old = old
calls_keep P keep (call ∷ calls) before old = keep call (calls ++ before) (calls_keep P keep calls before old)
