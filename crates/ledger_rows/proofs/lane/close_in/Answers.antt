use Rattle.sched_plain.specs.Entries.{decided_as, outcome_of}
use Rattle.entry_lines.specs.Rows.{changed, row_there}
use Rattle.ledger_rows.proofs.Lookups.{mild_done, decided_mild}
use Rattle.ledger_rows.proofs.BlockLemmas.{blocks_but}
use Rattle.ledger_rows.proofs.Wholes.{whole_set}
use Rattle.ledger_rows.proofs.lane.close_in.Goals as goal

pub renumber-requires-clause-lane : goal.renumber-requires-clause-lane
renumber-requires-clause-lane c =
    (mild_done c.args.rows.now.rows c.close.new.rows.rows c.args.instant c.in-Some.place (decided_as (outcome_of c.args.reason)) (λ before. before) c.in-Some.ensures.some c.requires.order (decided_mild (outcome_of c.args.reason)) c.close.ensures.rows).lane

pub renumber-requires-clause-but : goal.renumber-requires-clause-but
renumber-requires-clause-but c =
    blocks_but c.args.rows.now.rows c.close.new.rows.rows c.args.wants.now.values c.in-Some.place (changed (decided_as (outcome_of c.args.reason)) (λ before. before) (row_there c.args.rows.now.rows c.in-Some.place)) c.requires.blocks c.close.ensures.rows

pub returns-in-Some-clause-whole : goal.returns-in-Some-clause-whole
returns-in-Some-clause-whole c =
    whole_set c.args.rows.now c.close.new.rows c.args.wants.now c.renumber.new.wants c.in-Some.place (changed (decided_as (outcome_of c.args.reason)) (λ before. before) (row_there c.args.rows.now.rows c.in-Some.place)) c.requires c.close.ensures.rows c.close.ensures.room
    (mild_done c.args.rows.now.rows c.close.new.rows.rows c.args.instant c.in-Some.place (decided_as (outcome_of c.args.reason)) (λ before. before) c.in-Some.ensures.some c.requires.order (decided_mild (outcome_of c.args.reason)) c.close.ensures.rows).lane
    c.renumber.ensures.blocks c.renumber.ensures.length c.renumber.ensures.room

pub returns-in-Some-clause-changes : goal.returns-in-Some-clause-changes
returns-in-Some-clause-changes c =
    (mild_done c.args.rows.now.rows c.close.new.rows.rows c.args.instant c.in-Some.place (decided_as (outcome_of c.args.reason)) (λ before. before) c.in-Some.ensures.some c.requires.order (decided_mild (outcome_of c.args.reason)) c.close.ensures.rows).changes
