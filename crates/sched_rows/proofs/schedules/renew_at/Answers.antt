use Rattle.std.proofs.Common.{◌-◌, arith}
use Rattle.sched_rows.proofs.KeptLemmas.{front_read, room_read}
use Rattle.sched_rows.proofs.ChangeLemmas.{rows_set}
use Rattle.sched_plain.specs.Rows.{done_to, Renews}
use Rattle.sched_rows.proofs.schedules.renew_at.Goals as goal

pub renew-requires-clause-front : goal.renew-requires-clause-front
renew-requires-clause-front c = front_read c.args.at.0 c.args.rows.now.items (c.args.number - 1) c.index_mut-row.result.now c.requires.spans (omega arith) c.index_mut-row.ensures.value

pub renew-requires-clause-room : goal.renew-requires-clause-room
renew-requires-clause-room c = room_read c.args.rows.now.items (c.args.number - 1) c.args.number c.index_mut-row.result.now (omega arith) (omega arith) c.requires.room c.index_mut-row.ensures.value

pub returns : goal.returns
returns c = rows_set c.args.rows.now.items (c.args.number - 1) c.args.number c.renew.new.self c.index_mut-row.result.now (done_to c.args.at.0 (Renews c.args.content)) (omega arith) (omega arith) c.index_mut-row.ensures.value c.renew.ensures
