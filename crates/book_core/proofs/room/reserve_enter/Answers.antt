use Rattle.std.proofs.Common.{refl, arith}
use Rattle.book_core.proofs.RoomLemmas.{sound_kept, ledger_roomier}
use Rattle.book_core.proofs.room.reserve_enter.Goals as goal

pub invariant_of-parts : goal.invariant_of-parts
invariant_of-parts c =
    (c.parts.invariant.0, sound_kept (ledger_roomier _ _ _ c.reserve_enter.ensures.same (λ queue. refl) (λ queue. omega arith)) c.parts.invariant.1)
