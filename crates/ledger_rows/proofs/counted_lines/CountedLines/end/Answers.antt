use Rattle.sched_plain.specs.Attempts.{end_attempt}
use Rattle.std.proofs.Common.{◌<◌, length, map, sym, subst}
use Rattle.entry_lines.specs.Rows.{LaneRows, changed, row_there}
use Rattle.ledger_rows.proofs.LineTallies.{tally_set}
use Rattle.ledger_rows.proofs.counted_lines.CountedLines.end.Goals as goal

pub invariant_of-self : goal.invariant_of-self
invariant_of-self c =
    tally_set c.self.inside.lines.rows c.end.new.self.rows c.args.place (changed (λ before. c.args.entry) (map (end_attempt c.args.number c.args.verdict c.args.status)) (row_there c.self.inside.lines.rows c.args.place))
    c.self.inside.tally c.turn.new.tally (subst (λ (l : LaneRows). c.args.place < length l.rows) (sym c.self.view_is) c.requires.there) c.end.ensures.rows c.self.invariant c.turn.ensures
