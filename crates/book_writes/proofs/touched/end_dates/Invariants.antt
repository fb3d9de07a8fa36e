use Rattle.std.proofs.Common.{◌≡◌, ◌-◌, ◌^◌, None}
use Rattle.book_writes.specs.Touching.{is_touched_to, SetsWhere}
use Rattle.book_writes.proofs.touched.end_dates.Given as goal

-- the touched ones so far have no date, and the others theirs
abbrev pub invariant-loop-inc : goal.invariant-loop-inc
invariant-loop-inc l =
    SetsWhere (is_touched_to l.rows.rows l.write l.after) (λ inc date. date ≡ None) l.initial.dates.dates l.dates.dates × (l.dates.room ≡ l.initial.dates.room)

abbrev pub decreases-loop-inc : goal.decreases-loop-inc
decreases-loop-inc l = 2 ^ 32 - l.after
