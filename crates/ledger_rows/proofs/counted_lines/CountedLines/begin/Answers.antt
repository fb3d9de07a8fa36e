use Rattle.sched_plain.specs.Attempts.{begun_attempt}
use Rattle.sched_plain.specs.Entries.{with_begin}
use Rattle.std.proofs.Common.{◌<◌, [], ◌∷◌, ◌++◌, length, refl, sym, subst}
use Rattle.entry_lines.specs.Rows.{LaneRows, changed, row_there}
use Rattle.ledger_rows.proofs.LineTallies.{tally_kept}
use Rattle.ledger_rows.proofs.counted_lines.CountedLines.begin.Goals as goal

pub invariant_of-self : goal.invariant_of-self
invariant_of-self c =
    tally_kept c.self.inside.lines.rows c.begin.new.self.rows c.args.place
    (changed (with_begin c.args.at.0) (λ before. before ++ begun_attempt c.begin.result c.args.at.0 c.args.epoch ∷ []) (row_there c.self.inside.lines.rows c.args.place))
    c.self.inside.tally (subst (λ (l : LaneRows). c.args.place < length l.rows) (sym c.self.view_is) c.requires.there) c.begin.ensures.rows refl c.self.invariant
