use Rattle.std.proofs.Common.{ap, sym, ◌∙◌}
use Rattle.entry_lines.specs.Rows.{LaneRows}
use Rattle.ledger_rows.specs.Rows.{attempts_at, attempts_in_row}
use Rattle.ledger_rows.proofs.Lookups.{there_is}
use Rattle.ledger_rows.proofs.lane.Lane.attempts.Goals as goal

pub returns-in-Some : goal.returns-in-Some
returns-in-Some c =
    c.attempts.ensures ∙ ap attempts_in_row (sym (there_is c.self.inside.rows.rows c.args.instant c.in-Some.place c.in-Some.ensures.some))
    ∙ ap {A = LaneRows} (λ b. attempts_at b.rows c.args.instant) c.self.view_is
