-- What is filed after one more call: a call that edits an entry leaves its policy, and mostly its count of attempts.
use Rattle.std.proofs.Common.{Bool, true, false, Option, Some, None}
use Rattle.sched_plain.specs.declared.entry.Entry.{Entry}
use Rattle.sched_plain.specs.declared.entry.Filed.{Filed}
use Rattle.sched_plain.specs.declared.schedule.Policy.{Policy}
use Rattle.sched_plain.specs.Entries.{changed_if}

-- what an edit keeps of each entry holds of what is filed after it
pub edit_keeps : (P : Option Filed → Type 0) (b : Bool) (change : Entry → Entry) (f : Option Filed) → P None
    → ((e : Entry) (policy : Policy) → P (Some (record { entry = e; policy = policy })) → P (Some (record { entry = change e; policy = policy })))
    → P f → P (changed_if b change f)
edit_keeps P true change None none keep old = none
edit_keeps P true change (Some f) none keep old = keep f.entry f.policy old
edit_keeps P false change f none keep old = old
