use Rattle.std.proofs.Common.{◌≡◌, ◌-◌, ◌^◌}
use Rattle.book_writes.specs.Touching.{is_touched_to, SetsWhere}
use Rattle.book_writes.specs.Dating.{IsRenewed}
use Rattle.book_writes.proofs.dates.renew_next.Given as goal

-- the touched ones so far have their new dates, and the others theirs
abbrev pub invariant-loop-inc : goal.invariant-loop-inc
invariant-loop-inc l =
    SetsWhere (is_touched_to l.rows.rows l.write l.after) (IsRenewed l.zones l.rows.rows l.content l.at.0) l.initial.next.dates l.next.dates
    × (l.next.room ≡ l.initial.next.room)

abbrev pub decreases-loop-inc : goal.decreases-loop-inc
decreases-loop-inc l = 2 ^ 32 - l.after
