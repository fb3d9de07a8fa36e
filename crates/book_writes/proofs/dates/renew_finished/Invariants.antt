use Rattle.std.proofs.Common.{◌≡◌, ◌-◌, ◌^◌, List, length}
use Rattle.sched_plain.specs.Ledger.{LedgerCall}
use Rattle.ledger_rows.specs.State.{Stands}
use Rattle.date_table.specs.Dates.{date_at}
use Rattle.book_writes.specs.Touching.{is_touched_to, SetsWhere}
use Rattle.book_writes.specs.Dating.{finished_now, kept_date}
use Rattle.book_writes.proofs.dates.renew_finished.Given as goal

-- the touched ones so far have their new dates, and the others theirs
abbrev pub invariant-loop-inc : goal.invariant-loop-inc
invariant-loop-inc l =
    ((calls : List LedgerCall) → Stands l.ledger calls
    → SetsWhere (is_touched_to l.rows.rows l.write l.after) (λ inc date. date ≡ kept_date (finished_now calls l.content inc (date_at l.next.dates inc)))
    l.initial.finished.dates l.finished.dates)
    × (length l.finished.dates ≡ length l.initial.finished.dates) × (l.finished.room ≡ l.initial.finished.room)

abbrev pub decreases-loop-inc : goal.decreases-loop-inc
decreases-loop-inc l = 2 ^ 32 - l.after
