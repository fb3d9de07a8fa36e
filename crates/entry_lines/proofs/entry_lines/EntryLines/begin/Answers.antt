use Rattle.std.proofs.Common.{◌≡◌, ◌+◌, ◌≤◌, ap, ap₂, sym, ◌∙◌, subst, arith, length, refl}
use Rattle.std.specs.List.{insert}
use Rattle.sched_plain.specs.declared.entry.Entry.{Entry}
use Rattle.sched_plain.specs.Attempts.{begun_attempt}
use Rattle.sched_plain.specs.Entries.{with_begin}
use Rattle.entry_lines.specs.Rows.{LaneRows}
use Rattle.entry_lines.specs.Written.{Written, line_at, stop}
use Rattle.entry_lines.specs.Laid.{IsOpened}
use Rattle.entry_lines.proofs.Seen.{Read, Begun, read_begun, seen_laid, seen_begun}
use Rattle.entry_lines.proofs.entry_lines.EntryLines.begin.Goals as goal

pub invariant_of-self : goal.invariant_of-self
invariant_of-self c =
    let was = c.self.invariant.1 in
    let all : c.put.new.attempts.len ≡ length c.self.inside.attempts.items + 1 = omega (arith, c.put.ensures.len, c.self.inside.attempts.ok) in
    let begun = read_begun c.self.inside.policies.items c.self.inside.attempts.items c.put.new.attempts.items c.self.inside.lines.items c.open_line.new.lines.items c.args.self.now.rows c.args.place
    c.args.at.0 c.args.epoch c.index-line.result.now c.start.result c.entry-entry.result c.begun.result
    (record { seen_is = ap {A = LaneRows} (λ b. b.rows) c.self.view_is; there = c.requires.there }) c.self.invariant.0 (omega (arith, was.few_attempts, c.self.inside.attempts.ok))
    c.index-line.ensures c.start.ensures.value c.entry-entry.ensures (c.begun.ensures refl) c.put.ensures.items c.open_line.ensures.opened in (
      seen_laid c.self.inside.policies.items c.self.inside.attempts.items c.put.new.attempts.items c.self.inside.lines.items c.open_line.new.lines.items c.args.self.now.rows c.args.place
          (c.entry-entry.result.used + 1) c.args.at.0 c.args.epoch (length c.put.new.attempts.items) begun (omega (arith, all, c.put.new.attempts.ok)),
      record {
        entries = omega (arith, was.entries, c.open_line.ensures.size.0, c.open_line.ensures.size.1);
        few = omega (arith, was.few, c.open_line.ensures.size.0);
        policy = was.policy;
        few_policies = was.few_policies;
        attempt = omega (arith, was.attempt, c.put.ensures.len, c.put.ensures.capacity, c.requires.room, ap {A = LaneRows} (λ b. b.begins) c.self.view_is);
        few_attempts = omega (arith, was.few_attempts, c.put.ensures.len, c.requires.room, ap {A = LaneRows} (λ b. b.begins) c.self.view_is);
      },
    )

pub returns-clause-rows : goal.returns-clause-rows
returns-clause-rows c =
    seen_begun c.self.inside.policies.items c.self.inside.attempts.items c.put.new.attempts.items c.self.inside.lines.items c.open_line.new.lines.items c.args.self.now.rows c.args.place
    (c.entry-entry.result.used + 1) c.args.at.0 c.args.epoch
    (read_begun c.self.inside.policies.items c.self.inside.attempts.items c.put.new.attempts.items c.self.inside.lines.items c.open_line.new.lines.items c.args.self.now.rows c.args.place
    c.args.at.0 c.args.epoch c.index-line.result.now c.start.result c.entry-entry.result c.begun.result
    (record { seen_is = ap {A = LaneRows} (λ b. b.rows) c.self.view_is; there = c.requires.there }) c.self.invariant.0 (omega (arith, c.self.invariant.1.few_attempts, c.self.inside.attempts.ok))
    c.index-line.ensures c.start.ensures.value c.entry-entry.ensures (c.begun.ensures refl) c.put.ensures.items c.open_line.ensures.opened)
