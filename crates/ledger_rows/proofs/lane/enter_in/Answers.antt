use Rattle.std.proofs.Common.{map, arith}
use Rattle.entry_lines.specs.Rows.{new_row}
use Rattle.ledger_rows.proofs.BlockLemmas.{blocks_before}
use Rattle.ledger_rows.proofs.Wholes.{entered_lane, entered_long}
use Rattle.ledger_rows.proofs.lane.enter_in.Goals as goal

pub fill_last-requires-clause-lane : goal.fill_last-requires-clause-lane
fill_last-requires-clause-lane c =
    entered_lane c.args.policy c.args.pairs.now c.args.rows.now.rows c.enter.new.self.rows c.requires.entrance c.requires.whole.order (omega arith) c.enter.ensures.rows

pub fill_last-requires-clause-but : goal.fill_last-requires-clause-but
fill_last-requires-clause-but c =
    blocks_before c.args.rows.now.rows (map (new_row c.args.policy) c.args.pairs.now) c.enter.new.self.rows c.args.wants.now.values c.requires.whole.blocks c.enter.ensures.rows

pub number_more-requires-clause-lane : goal.number_more-requires-clause-lane
number_more-requires-clause-lane c =
    entered_lane c.args.policy c.args.pairs.now c.args.rows.now.rows c.enter.new.self.rows c.requires.entrance c.requires.whole.order (omega arith) c.enter.ensures.rows

pub number_more-requires-clause-room : goal.number_more-requires-clause-room
number_more-requires-clause-room c =
    let long = entered_long c.args.policy c.args.pairs.now c.args.rows.now.rows c.enter.new.self.rows c.enter.ensures.rows in
    let ready = c.requires.whole.ready in
    omega (arith, long, ready, c.requires.room, c.fill_last.ensures.length, c.fill_last.ensures.room)

pub returns-clause-whole : goal.returns-clause-whole
returns-clause-whole c =
    let long = entered_long c.args.policy c.args.pairs.now c.args.rows.now.rows c.enter.new.self.rows c.enter.ensures.rows in
    let ready = c.requires.whole.ready in
    record {
      order = entered_lane c.args.policy c.args.pairs.now c.args.rows.now.rows c.enter.new.self.rows c.requires.entrance c.requires.whole.order (omega arith) c.enter.ensures.rows;
      blocks = c.number_more.ensures.blocks;
      ready = omega (arith, long, ready, c.requires.room, c.fill_last.ensures.length, c.fill_last.ensures.room, c.enter.ensures.room, c.number_more.ensures.room);
    }
