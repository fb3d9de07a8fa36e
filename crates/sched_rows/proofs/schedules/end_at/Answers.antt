use Rattle.std.proofs.Common.{◌-◌, arith}
use Rattle.sched_rows.proofs.KeptLemmas.{front_read}
use Rattle.sched_rows.proofs.ChangeLemmas.{rows_set}
use Rattle.sched_plain.specs.Rows.{done_to, Ends}
use Rattle.sched_rows.proofs.schedules.end_at.Goals as goal

pub end-requires : goal.end-requires
end-requires c = front_read c.args.at.0 c.args.rows.now.items (c.args.number - 1) c.index_mut-row.result.now c.requires.spans (omega arith) c.index_mut-row.ensures.value

pub returns : goal.returns
returns c = rows_set c.args.rows.now.items (c.args.number - 1) c.args.number c.end.new.self c.index_mut-row.result.now (done_to c.args.at.0 Ends) (omega arith) (omega arith) c.index_mut-row.ensures.value c.end.ensures.row
