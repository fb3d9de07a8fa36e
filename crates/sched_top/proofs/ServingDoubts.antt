-- What a request leaves in doubt, from what the call that it asks for left.
use Rattle.std.proofs.Common.{◌≡◌, ◌⊎◌, ℕ, Option, Some, None, Result, Ok, Err, List, refl, subst, sym, inl, inr}
use Rattle.std.specs.Prelude.{OnOk, IfOk, IfErr}
use Rattle.sched_plain.specs.declared.step.Step.{Step}
use Rattle.sched_calls.specs.declared.reply.Reply.{Reply}
use Rattle.durable_book.specs.declared.grow_fault.GrowFault.{GrowFault}
use Rattle.durable_book.specs.declared.grow_fault.GrowFault.TheVariants as grows
use Rattle.durable_book.specs.Doubts.{IsOwnDoubt, IsLeft}
use Rattle.durable_book.specs.Faults.{grow_denial}
use Rattle.durable_writes.specs.declared.write_fault.WriteFault.{WriteFault}
use Rattle.durable_writes.specs.declared.write_fault.WriteFault.TheVariants as writes
use Rattle.durable_writes.specs.Writing.{IsLeftBy}
use Rattle.sched_top.specs.declared.service.response.Response.{Response}
use Rattle.sched_top.specs.declared.service.response.Response.TheVariants as responses
use Rattle.sched_top.specs.Serving.{Kind, Served, ShortOfMemory, ZonesFailed, JournalFull, DiskFailed}
use Rattle.sched_top.specs.Asking.{IsTold, TellsWrite, TellsStop}
use Rattle.sched_top.specs.Turns.{LeavesDoubt, kind_of}

-- nothing is
none_own : (left : Option Step) → left ≡ None → IsOwnDoubt left
none_own left none = subst IsOwnDoubt (sym none) tt

pub none_leaves : (doubt left : Option Step) (kind : Kind) → left ≡ None → LeavesDoubt doubt kind left
none_leaves doubt left Served none = inl none
none_leaves doubt left ShortOfMemory none = none_own left none
none_leaves doubt left ZonesFailed none = inl none
none_leaves doubt left JournalFull none = inl none
none_leaves doubt left DiskFailed none = none_own left none

-- what was in doubt before is
pub same_leaves : (doubt : Option Step) (kind : Kind) → IsOwnDoubt doubt → LeavesDoubt doubt kind doubt
same_leaves doubt Served own = inr refl
same_leaves doubt ShortOfMemory own = own
same_leaves doubt ZonesFailed own = inr refl
same_leaves doubt JournalFull own = inr refl
same_leaves doubt DiskFailed own = own

-- a call of the disk failed, and this was told
pub disk_leaves : (doubt left : Option Step) (text : List ℕ) (response : Response) → IsTold DiskFailed text response → IsOwnDoubt left → LeavesDoubt doubt (kind_of response) left
disk_leaves doubt left text response (inl short) own = subst (λ (r : Response). LeavesDoubt doubt (kind_of r) left) (sym short) own
disk_leaves doubt left text response (inr (kind, is)) own = subst (λ (k : Kind). LeavesDoubt doubt k left) (sym kind) own

-- a write was served
pub write_leaves : (doubt left : Option Step) (done : Result Reply WriteFault) (steps : ℕ) (response : Response) → TellsWrite done steps response
    → OnOk done (left ≡ None) → IfErr done (λ fault. IsLeftBy fault left) → LeavesDoubt doubt (kind_of response) left
write_leaves doubt left (Ok reply) steps response tells settled by = none_leaves doubt left (kind_of response) settled
write_leaves doubt left (Err (writes.Refused refusal)) steps response tells settled by = none_leaves doubt left (kind_of response) by
write_leaves doubt left (Err (writes.Full end need)) steps response tells settled by = none_leaves doubt left (kind_of response) by
write_leaves doubt left (Err writes.DiskFault) steps response tells settled by = disk_leaves doubt left _ response tells by
write_leaves doubt left (Err writes.ZoneFailed) steps response tells settled by = none_leaves doubt left (kind_of response) by
write_leaves doubt left (Err writes.OutOfMemory) steps response tells settled by = none_leaves doubt left (kind_of response) by

-- a sweep was cut
pub stop_leaves : (doubt left : Option Step) (fault : GrowFault) (steps : ℕ) (response : Response) → TellsStop fault steps response
    → IsLeft (grow_denial fault) left → LeavesDoubt doubt (kind_of response) left
stop_leaves doubt left (grows.Full end need) steps response tells by = none_leaves doubt left (kind_of response) by
stop_leaves doubt left grows.DiskFault steps response tells by = disk_leaves doubt left _ response tells by
stop_leaves doubt left grows.OutOfMemory steps response tells by = none_leaves doubt left (kind_of response) by

-- where a result is Ok, what holds of its value says more
pub ok_on : {A E : Type 0} (P : A → Type 0) (R : Type 0) (r : Result A E) → ((x : A) → P x → R) → IfOk r P → OnOk r R
ok_on P R (Ok x) says is = says x is
ok_on P R (Err fault) says is = tt
