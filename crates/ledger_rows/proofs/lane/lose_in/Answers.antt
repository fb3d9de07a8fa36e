use Rattle.std.proofs.Common.{map}
use Rattle.sched_plain.specs.Attempts.{lose_attempt}
use Rattle.sched_plain.specs.Entries.{with_loss}
use Rattle.entry_lines.specs.Rows.{changed, row_there}
use Rattle.ledger_rows.proofs.Lookups.{mild_done, loss_mild}
use Rattle.ledger_rows.proofs.BlockLemmas.{blocks_but}
use Rattle.ledger_rows.proofs.Wholes.{whole_set}
use Rattle.ledger_rows.proofs.lane.lose_in.Goals as goal

pub renumber-requires-clause-lane : goal.renumber-requires-clause-lane
renumber-requires-clause-lane c =
    (mild_done c.args.rows.now.rows c.lose.new.rows.rows c.args.instant c.in-Some.place (with_loss c.args.at.0) (map lose_attempt) c.in-Some.ensures.some c.requires.whole.order (loss_mild c.args.at.0 c.requires.at) c.lose.ensures.rows).lane

pub renumber-requires-clause-but : goal.renumber-requires-clause-but
renumber-requires-clause-but c =
    blocks_but c.args.rows.now.rows c.lose.new.rows.rows c.args.wants.now.values c.in-Some.place (changed (with_loss c.args.at.0) (map lose_attempt) (row_there c.args.rows.now.rows c.in-Some.place)) c.requires.whole.blocks c.lose.ensures.rows

pub returns-in-Some-clause-whole : goal.returns-in-Some-clause-whole
returns-in-Some-clause-whole c =
    whole_set c.args.rows.now c.lose.new.rows c.args.wants.now c.renumber.new.wants c.in-Some.place (changed (with_loss c.args.at.0) (map lose_attempt) (row_there c.args.rows.now.rows c.in-Some.place)) c.requires.whole c.lose.ensures.rows c.lose.ensures.room
    (mild_done c.args.rows.now.rows c.lose.new.rows.rows c.args.instant c.in-Some.place (with_loss c.args.at.0) (map lose_attempt) c.in-Some.ensures.some c.requires.whole.order (loss_mild c.args.at.0 c.requires.at) c.lose.ensures.rows).lane
    c.renumber.ensures.blocks c.renumber.ensures.length c.renumber.ensures.room

pub returns-in-Some-clause-changes : goal.returns-in-Some-clause-changes
returns-in-Some-clause-changes c =
    (mild_done c.args.rows.now.rows c.lose.new.rows.rows c.args.instant c.in-Some.place (with_loss c.args.at.0) (map lose_attempt) c.in-Some.ensures.some c.requires.whole.order (loss_mild c.args.at.0 c.requires.at) c.lose.ensures.rows).changes
