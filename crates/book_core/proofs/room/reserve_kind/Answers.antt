use Rattle.std.proofs.Common.{subst, sym}
use Rattle.std.specs.Prelude.{OnOk}
use Rattle.sched_plain.specs.declared.step.Step.{Step}
use Rattle.sched_plain.specs.Legal.{MayFollow}
use Rattle.book_parts.specs.Stands.{calendar}
use Rattle.book_core.specs.Room.{HasKindRoom}
use Rattle.book_core.proofs.RoomLemmas.{zone_is_read}
use Rattle.book_core.proofs.room.reserve_kind.Goals as goal

pub reserve_zone-requires-clause-zone : goal.reserve_zone-requires-clause-zone
reserve_zone-requires-clause-zone c =
    let h = c.requires.stood.history in
    zone_is_read h c.in-Zone.at c.in-Zone.name c.in-Zone.bytes
    (subst (λ (s : Step). MayFollow calendar h s) c.in-Zone.is (c.requires.may h c.requires.stood.stands))

pub returns-in-Begin-clause-room : goal.returns-in-Begin-clause-room
returns-in-Begin-clause-room c =
    subst (λ (s : Step). OnOk c.reserve_attempt.result (HasKindRoom c.reserve_attempt.new.parts c.args.spare.now s)) (sym c.in-Begin.is)
    c.reserve_attempt.ensures.room
