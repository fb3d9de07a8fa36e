use Rattle.std.proofs.Common.{◌≡◌, ℕ, ◌-◌, ◌<◌, length, ap, ◌∙◌, arith}
use Rattle.entry_lines.specs.Rows.{no_row, row_there}
use Rattle.ledger_rows.proofs.Entrances.{last_above, last_is_top}
use Rattle.ledger_rows.proofs.lane.last_instant.Goals as goal

pub returns-in_default-clause-top : goal.returns-in_default-clause-top
returns-in_default-clause-top c = λ j lt.
    let some : 0 < length c.args.rows.now.rows = omega (arith, c.in_default, c.len.ensures.value) in
    let here : c.instant.result ≡ (row_there c.args.rows.now.rows (length c.args.rows.now.rows - 1)).instant = c.instant.ensures ∙ ap (λ (n : ℕ). (row_there c.args.rows.now.rows (n - 1)).instant) c.len.ensures.value in
    let top = last_is_top c.args.rows.now.rows no_row c.requires some j lt in omega (arith, here, top)

pub returns-in_default-clause-next : goal.returns-in_default-clause-next
returns-in_default-clause-next c = λ p behind.
    let some : 0 < length c.args.rows.now.rows = omega (arith, c.in_default, c.len.ensures.value) in
    let here : c.instant.result ≡ (row_there c.args.rows.now.rows (length c.args.rows.now.rows - 1)).instant = c.instant.ensures ∙ ap (λ (n : ℕ). (row_there c.args.rows.now.rows (n - 1)).instant) c.len.ensures.value in
    let above = last_above c.args.rows.now.rows no_row p some behind in omega (arith, here, above)
