use Rattle.std.proofs.Common.{◌-◌, sym, arith}
use Rattle.plain_words.proofs.ListLemmas.{nth_past}
use Rattle.sched_rows.specs.State.{rooms_in}
use Rattle.sched_rows.proofs.PlaceLemmas.{nth_none}
use Rattle.sched_rows.proofs.AloneLemmas.{no_room_asked, rooms_long, rows_reserved, room_made}
use Rattle.sched_rows.proofs.schedules.reserve_at.Goals as goal

pub returns-then-number-eq0-clause-room : goal.returns-then-number-eq0-clause-room
returns-then-number-eq0-clause-room c = no_room_asked c.args.rows.now.items c.args.number (sym (nth_none (rooms_in c.args.rows.now.items) c.args.number c.if-number-eq0.true))

pub returns-then-number-len-clause-room : goal.returns-then-number-len-clause-room
returns-then-number-len-clause-room c =
    no_room_asked c.args.rows.now.items c.args.number (nth_past (rooms_in c.args.rows.now.items) c.args.number (rooms_long c.args.rows.now.items c.args.number (omega arith)))

pub returns-clause-rows : goal.returns-clause-rows
returns-clause-rows c = rows_reserved c.args.rows.now.items (c.args.number - 1) c.reserve.new.self c.index_mut-row.result.now (omega arith) c.index_mut-row.ensures.value c.reserve.ensures.row

pub returns-clause-room : goal.returns-clause-room
returns-clause-room c = room_made c.reserve.result c.args.rows.now.items (c.args.number - 1) c.args.number c.reserve.new.self (omega arith) (omega arith) c.reserve.ensures.room
