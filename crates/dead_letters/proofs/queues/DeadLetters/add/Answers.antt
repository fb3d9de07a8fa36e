use Rattle.std.proofs.Common.{arith}
use Rattle.dead_letters.proofs.PileLaws.{room_seen, one_more, one_more_post, one_less_room}
use Rattle.dead_letters.proofs.queues.DeadLetters.add.Goals as goal

pub push_to-requires : goal.push_to-requires
push_to-requires c = omega (arith, room_seen c.self.inside.piles c.args.self.now c.args.queue.now c.self.view_is, c.requires)

pub returns-clause-letters : goal.returns-clause-letters
returns-clause-letters c =
    let added = c.push_to.ensures in
    one_more c.self.inside.piles c.push_to.new.piles c.args.self.now c.self.view_is c.args.queue.now c.args.letter added.0 added.1 added.2 added.3 added.4

pub returns-clause-stands : goal.returns-clause-stands
returns-clause-stands c =
    let added = c.push_to.ensures in
    one_more_post c.self.inside.piles c.push_to.new.piles c.args.self.now c.self.view_is c.args.queue.now c.args.letter added.0 added.1 added.2 added.3 added.4

pub returns-clause-room : goal.returns-clause-room
returns-clause-room c =
    let added = c.push_to.ensures in
    one_less_room c.self.inside.piles c.push_to.new.piles c.args.self.now c.self.view_is c.args.queue.now c.args.letter added.0 added.1 added.2 added.3 added.4
