use Rattle.std.proofs.Common.{◌+◌, length, ap, sym, ◌∙◌, arith}
use Rattle.std.specs.List.{filter}
use Rattle.ledger_rows.specs.Rows.{is_open_row}
use Rattle.ledger_rows.proofs.BlockLemmas.{numbers_long}
use Rattle.ledger_rows.proofs.Tallies.{open_is, all_taken}
use Rattle.ledger_rows.proofs.Undecided.{open_one, open_skip}
use Rattle.ledger_rows.proofs.lane.undecided_in.Goals as goal

pub loop-place-smaller : goal.loop-place-smaller
loop-place-smaller c =
    let inside = c.in-Some.ensures.some.in_range in
    let behind = c.in-Some.ensures.some.behind in
    let long = numbers_long c.args.rows.now.rows in omega (arith, inside, behind, long)

pub loop-place-preserved : goal.loop-place-preserved
loop-place-preserved c =
    let was = c.loop-place.invariant in
    let first = c.in-Some.ensures.some in
    let inside = first.in_range in
    let behind = first.behind in
    let long = numbers_long c.args.rows.now.rows in
    let few = was.few in
    record {
      value = ap (λ n. n + 1) was.value ∙ sym (open_one c.args.rows.now.rows c.loop-place.from c.in-Some.place c.requires.order first);
      few = omega (arith, few, behind);
      within = omega (arith, inside, long);
    }

pub returns : goal.returns
returns c =
    let was = c.loop-place.invariant in
    let rows = c.args.rows.now.rows in
    was.value ∙ sym (open_skip rows c.loop-place.from (length rows) c.requires.order was.within (omega arith) c.in_default.ensures.none)
    ∙ ap (λ l. length (filter is_open_row l)) (all_taken rows (length rows) (omega arith)) ∙ sym (open_is rows c.requires.order.rising)
