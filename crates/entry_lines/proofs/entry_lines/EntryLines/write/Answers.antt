use Rattle.std.proofs.Common.{ap}
use Rattle.entry_lines.specs.Rows.{LaneRows}
use Rattle.entry_lines.proofs.Seen.{seen_written}
use Rattle.entry_lines.proofs.entry_lines.EntryLines.write.Goals as goal

pub returns-clause-rows : goal.returns-clause-rows
returns-clause-rows c =
    seen_written c.self.inside.policies.items c.self.inside.attempts.items c.self.inside.lines.items c.write_line.new.lines.items c.args.self.now.rows c.args.place c.args.entry
    (record { seen_is = ap {A = LaneRows} (λ b. b.rows) c.self.view_is; there = c.requires.there }) c.write_line.ensures.written c.requires.used
