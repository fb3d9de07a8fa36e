use Rattle.std.proofs.Common.{ap, ◌∙◌}
use Rattle.entry_lines.specs.Rows.{LaneRows}
use Rattle.ledger_rows.specs.Numbers.{lane_number}
use Rattle.ledger_rows.proofs.BlockLemmas.{blocks_least}
use Rattle.ledger_rows.proofs.lane.Lane.least.Goals as goal

pub returns-clause-value : goal.returns-clause-value
returns-clause-value c =
    c.least.ensures ∙ blocks_least c.self.inside.rows.rows c.self.inside.wants.values c.self.invariant.blocks ∙ ap {A = LaneRows} (λ b. lane_number b.rows) c.self.view_is
