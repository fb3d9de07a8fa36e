use Rattle.std.proofs.Common.{◌≡◌, ◌-◌, ◌^◌, List}
use Rattle.sched_plain.specs.Ledger.{LedgerCall}
use Rattle.ledger_rows.specs.State.{Stands}
use Rattle.book_writes.specs.Touching.{is_touched_to}
use Rattle.book_writes.specs.Cancelling.{Cancels}
use Rattle.book_writes.proofs.touched.cancel_touched.Given as goal

-- the entries of the touched ones so far are cancelled
abbrev pub invariant-loop-inc : goal.invariant-loop-inc
invariant-loop-inc l =
    ((calls : List LedgerCall) → Stands l.initial.ledger calls → Cancels (is_touched_to l.rows.rows l.write l.after) l.ledger calls)
    × (l.ledger.flights ≡ l.initial.ledger.flights)

abbrev pub decreases-loop-inc : goal.decreases-loop-inc
decreases-loop-inc l = 2 ^ 32 - l.after
