use Rattle.std.proofs.Common.{arith}
use Rattle.sched_rows.proofs.SpanLemmas.{cut_last_is}
use Rattle.sched_rows.proofs.row.cut_last.Goals as goal

-- the span that was written is that of the last revision
pub returns-then-count-gt0-clause-items : goal.returns-then-count-gt0-clause-items
returns-then-count-gt0-clause-items c =
    rw c.min-last.ensures (cut_last_is c.args.at c.args.revisions.now.items _ c.index_mut-last.result.now c.requires (omega arith) c.index_mut-last.ensures.value)
