use Rattle.std.proofs.Common.{◌≡◌, ℕ, ◌+◌, ◌-◌, ◌/◌, slice_index, arith, sym, ◌∙◌}
use Rattle.std.proofs.lemmas.List.{get_or-map}
use Rattle.entry_lines.specs.Rows.{Row, no_row}
use Rattle.ledger_rows.specs.Rows.{instants_in}
use Rattle.ledger_rows.proofs.Lookups.{upto, onward, low_here, high_here}
use Rattle.ledger_rows.proofs.lane.first_not_before.Goals as goal

pub loop-low-preserved-then-instant : goal.loop-low-preserved-then-instant
loop-low-preserved-then-instant c =
    let middle : ℕ = c.loop-low.low + (c.loop-low.high - c.loop-low.low) / 2 in
    let here : slice_index (instants_in c.args.rows.now.rows) middle ≡ c.instant.result =
    get_or-map {X = Row} (λ row. row.instant) c.args.rows.now.rows middle no_row 0 (omega (arith, c.loop-low-test.true, c.loop-low.invariant.within)) ∙ sym c.instant.ensures in
    record {
      order = omega (arith, c.loop-low-test.true);
      within = c.loop-low.invariant.within;
      below = upto c.args.rows.now.rows c.args.instant middle c.requires (omega (arith, c.loop-low-test.true, c.loop-low.invariant.within)) (low_here (sym here) c.if-instant.true);
      above = c.loop-low.invariant.above;
    }

pub loop-low-preserved : goal.loop-low-preserved
loop-low-preserved c =
    let middle : ℕ = c.loop-low.low + (c.loop-low.high - c.loop-low.low) / 2 in
    let here : slice_index (instants_in c.args.rows.now.rows) middle ≡ c.instant.result =
    get_or-map {X = Row} (λ row. row.instant) c.args.rows.now.rows middle no_row 0 (omega (arith, c.loop-low-test.true, c.loop-low.invariant.within)) ∙ sym c.instant.ensures in
    record {
      order = omega (arith, c.loop-low-test.true);
      within = omega (arith, c.loop-low-test.true, c.loop-low.invariant.within);
      below = c.loop-low.invariant.below;
      above = onward c.args.rows.now.rows c.args.instant middle c.requires (high_here (sym here) c.if-instant.false);
    }
