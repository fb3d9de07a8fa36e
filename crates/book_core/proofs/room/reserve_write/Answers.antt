use Rattle.book_core.proofs.RoomLemmas.{sound_kept, rows_roomier}
use Rattle.book_core.proofs.room.reserve_write.Goals as goal

pub invariant_of-parts-2 : goal.invariant_of-parts-2
invariant_of-parts-2 c = (
  c.parts.invariant.0,
  sound_kept (rows_roomier _ _ _ _ _ c.reserve.ensures.rows c.reserve.ensures.groups c.reserve.ensures.latest
      c.reserve_token.ensures.kept c.reserve_dates_of.ensures.next c.reserve_dates_of.ensures.finished) c.parts.invariant.1,
)
