use Rattle.std.proofs.Common.{arith}
use Rattle.dead_letters.proofs.PileLaws.{room_seen, room_shown, same_letters, same_posts, no_less_room, ok_room}
use Rattle.dead_letters.proofs.queues.DeadLetters.reserve.Goals as goal

pub returns-then-count-room_for-clause-room : goal.returns-then-count-room_for-clause-room
returns-then-count-room_for-clause-room c =
    omega (arith, room_seen c.self.inside.piles c.args.self.now c.args.queue.now c.self.view_is, c.room_for.ensures)

pub returns-clause-letters : goal.returns-clause-letters
returns-clause-letters c = same_letters c.self.inside.piles c.make_room.new.piles c.args.self.now c.self.view_is c.make_room.ensures.widened

pub returns-clause-stands : goal.returns-clause-stands
returns-clause-stands c = same_posts c.self.inside.piles c.make_room.new.piles c.args.self.now c.self.view_is c.make_room.ensures.widened

pub returns-clause-kept : goal.returns-clause-kept
returns-clause-kept c = no_less_room c.self.inside.piles c.make_room.new.piles c.args.self.now c.self.view_is c.make_room.ensures.widened

pub returns-clause-room : goal.returns-clause-room
returns-clause-room c = ok_room c.make_room.result c.args.count _ _ (room_shown c.make_room.new.piles c.args.queue.now) c.make_room.ensures.room

pub returns-clause-ready : goal.returns-clause-ready
returns-clause-ready c enough =
    absurd (omega (arith, room_seen c.self.inside.piles c.args.self.now c.args.queue.now c.self.view_is, c.room_for.ensures, enough))
