use Rattle.book_core.proofs.RoomLemmas.{on_both, room_counted}
use Rattle.book_core.proofs.room.reserve.Goals as goal

pub returns-in_default : goal.returns-in_default
returns-in_default c = record {
  same = c.reserve_counted.ensures.same;
  room = on_both c.reserve_counted.result _ _ _ (room_counted _ _ c.args.step.now) c.reserve_counted.ensures.light c.reserve_counted.ensures.room;
}
