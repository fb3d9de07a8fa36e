use Rattle.std.proofs.Common.{arith, sym, ◌∙◌}
use Rattle.std.proofs.lemmas.List.{get_or-map}
use Rattle.entry_lines.specs.Rows.{Row, no_row}
use Rattle.ledger_rows.proofs.Lookups.{cut_absent}
use Rattle.ledger_rows.proofs.lane.place_of.Goals as goal

pub returns-then-place-len-clause-none : goal.returns-then-place-len-clause-none
returns-then-place-len-clause-none c =
    cut_absent c.args.rows.now.rows c.args.instant c.first_not_before-place.result c.requires c.first_not_before-place.ensures
    (λ lt. absurd (omega (arith, lt, c.if-place-len.true, c.len.ensures.value)))

pub returns-then-instant-clause-none : goal.returns-then-instant-clause-none
returns-then-instant-clause-none c =
    let place = c.first_not_before-place.result in
    cut_absent c.args.rows.now.rows c.args.instant place c.requires c.first_not_before-place.ensures
    (λ lt same. c.if-instant.true (c.instant.ensures ∙ sym (get_or-map {X = Row} (λ row. row.instant) c.args.rows.now.rows place no_row 0 lt) ∙ same))
