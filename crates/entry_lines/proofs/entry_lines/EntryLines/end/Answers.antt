use Rattle.std.proofs.Common.{◌+◌, ap}
use Rattle.sched_plain.specs.Attempts.{end_attempt, lose_attempt}
use Rattle.sched_plain.specs.declared.entry.Entry.{Entry}
use Rattle.entry_lines.specs.Rows.{LaneRows}
use Rattle.entry_lines.proofs.Seen.{seen_mapped}
use Rattle.entry_lines.proofs.entry_lines.EntryLines.end.Goals as goal

pub returns-clause-rows : goal.returns-clause-rows
returns-clause-rows c =
    seen_mapped c.self.inside.policies.items c.self.inside.attempts.items c.end_among.new.attempts.items c.self.inside.lines.items c.write_line.new.lines.items c.args.self.now.rows c.args.place
    c.start-from.result (c.start-from.result + c.entry.result.used) c.args.entry c.index-line.result.now (end_attempt c.args.number c.args.verdict c.args.status)
    (record { seen_is = ap {A = LaneRows} (λ b. b.rows) c.self.view_is; there = c.requires.there }) c.self.invariant.0 c.index-line.ensures c.start-from.ensures.value
    (ap {A = Entry} (λ e. c.start-from.result + e.used) c.entry.ensures) c.write_line.ensures.written c.end_among.ensures.mapped c.requires.used
