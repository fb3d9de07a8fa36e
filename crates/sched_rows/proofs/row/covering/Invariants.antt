use Rattle.std.proofs.Common.{◌≡◌, drop}
use Rattle.std.specs.List.{find}
use Rattle.sched_plain.specs.Rows.{covers}
use Rattle.sched_rows.proofs.row.covering.Given as goal

-- what is left has the answer
abbrev pub invariant-loop-revision : goal.invariant-loop-revision
invariant-loop-revision l = find (covers l.instant) (drop l.revision-index l.revisions) ≡ find (covers l.instant) l.revisions
