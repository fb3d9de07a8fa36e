use Rattle.std.proofs.Common.{◌≡◌, List, length, ap, ◌∙◌, arith}
use Rattle.std.proofs.lemmas.List.{length-set}
use Rattle.entry_lines.specs.Rows.{Row, row_there}
use Rattle.ledger_rows.specs.Rows.{cancelled_row}
use Rattle.ledger_rows.proofs.Lookups.{cancelled_even}
use Rattle.ledger_rows.proofs.BlockLemmas.{blocks_but, numbers_long}
use Rattle.ledger_rows.proofs.Undecided.{cancel_skip}
use Rattle.ledger_rows.proofs.Wholes.{even_begins, even_ends, even_lane, even_step}
use Rattle.ledger_rows.proofs.lane.cancel_in.Goals as goal

pub loop-place-init : goal.loop-place-init
loop-place-init c = (even_begins cancelled_row c.args.rows.now c.args.wants.now c.requires, omega arith)

pub first_from-requires-clause-lane : goal.first_from-requires-clause-lane
first_from-requires-clause-lane c = c.loop-place.invariant.0.whole.order

pub first_from-requires-clause-blocks : goal.first_from-requires-clause-blocks
first_from-requires-clause-blocks c = c.loop-place.invariant.0.whole.blocks

pub cancel-requires : goal.cancel-requires
cancel-requires c =
    let inside = c.in-Some.ensures.some.in_range in
    let long = numbers_long c.loop-place.rows.rows in omega (arith, inside, long)

pub renumber-requires-clause-there : goal.renumber-requires-clause-there
renumber-requires-clause-there c =
    let inside = c.in-Some.ensures.some.in_range in
    let long = numbers_long c.loop-place.rows.rows in
    let kept : length c.cancel.new.rows.rows ≡ length c.loop-place.rows.rows = ap {A = List Row} length c.cancel.ensures.rows ∙ length-set c.loop-place.rows.rows c.in-Some.place (cancelled_row (row_there c.loop-place.rows.rows c.in-Some.place)) in
    omega (arith, inside, long, kept)

pub renumber-requires-clause-lane : goal.renumber-requires-clause-lane
renumber-requires-clause-lane c =
    let inside = c.in-Some.ensures.some.in_range in
    let long = numbers_long c.loop-place.rows.rows in
    even_lane cancelled_row c.loop-place.rows.rows c.cancel.new.rows.rows c.in-Some.place cancelled_even c.loop-place.invariant.0.whole.order (omega (arith, inside, long)) c.cancel.ensures.rows

pub renumber-requires-clause-but : goal.renumber-requires-clause-but
renumber-requires-clause-but c =
    blocks_but c.loop-place.rows.rows c.cancel.new.rows.rows c.loop-place.wants.values c.in-Some.place (cancelled_row (row_there c.loop-place.rows.rows c.in-Some.place)) c.loop-place.invariant.0.whole.blocks c.cancel.ensures.rows

pub loop-place-smaller : goal.loop-place-smaller
loop-place-smaller c =
    let inside = c.in-Some.ensures.some.in_range in
    let behind = c.in-Some.ensures.some.behind in
    let long = numbers_long c.loop-place.rows.rows in
    let kept : length c.cancel.new.rows.rows ≡ length c.loop-place.rows.rows = ap {A = List Row} length c.cancel.ensures.rows ∙ length-set c.loop-place.rows.rows c.in-Some.place (cancelled_row (row_there c.loop-place.rows.rows c.in-Some.place)) in
    omega (arith, inside, behind, long, kept)

pub loop-place-preserved : goal.loop-place-preserved
loop-place-preserved c =
    let was = c.loop-place.invariant.0 in
    let first = c.in-Some.ensures.some in
    let inside = first.in_range in
    let long = numbers_long c.loop-place.rows.rows in
    let whole = was.long in
    let here = cancel_skip c.args.rows.now c.loop-place.rows c.loop-place.wants c.loop-place.from c.in-Some.place was first.behind (omega (arith, inside, long)) first.before in
    let next = even_step cancelled_row c.args.rows.now c.loop-place.rows c.cancel.new.rows c.loop-place.wants c.renumber.new.wants c.in-Some.place cancelled_even here
    (omega (arith, inside, long, whole)) c.cancel.ensures.rows c.cancel.ensures.room c.cancel.ensures.begins c.renumber.ensures.blocks c.renumber.ensures.length c.renumber.ensures.room in
    let grown = next.long in
    (next, omega (arith, inside, long, whole, grown))

pub returns-clause-rows : goal.returns-clause-rows
returns-clause-rows c =
    let was = c.loop-place.invariant.0 in
    let whole = was.long in
    let here = cancel_skip c.args.rows.now c.loop-place.rows c.loop-place.wants c.loop-place.from (length c.loop-place.rows.rows) was c.loop-place.invariant.1 (omega arith) c.in_default.ensures.none in
    even_ends cancelled_row c.args.rows.now c.loop-place.rows c.loop-place.wants (length c.loop-place.rows.rows) here (omega (arith, whole))
