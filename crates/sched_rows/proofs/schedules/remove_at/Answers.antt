use Rattle.std.proofs.Common.{◌-◌, arith}
use Rattle.sched_rows.proofs.KeptLemmas.{front_read}
use Rattle.sched_rows.proofs.ChangeLemmas.{rows_set}
use Rattle.sched_plain.specs.Rows.{removed_at}
use Rattle.sched_rows.proofs.schedules.remove_at.Goals as goal

pub remove-requires : goal.remove-requires
remove-requires c = front_read c.args.at.0 c.args.rows.now.items (c.args.number - 1) c.index_mut-row.result.now c.requires.spans (omega arith) c.index_mut-row.ensures.value

pub returns : goal.returns
returns c = rows_set c.args.rows.now.items (c.args.number - 1) c.args.number c.remove.new.self c.index_mut-row.result.now (removed_at c.args.at.0) (omega arith) (omega arith) c.index_mut-row.ensures.value c.remove.ensures.row
