use Rattle.std.proofs.Common.{◌≡◌, ◌+◌, ◌≤◌, ◌<◌, ◌++◌, ℕ, List, rules, arith, ap, ◌∙◌, sym, subst, length, map}
use Rattle.sched_plain.specs.declared.step.Pair.{Pair}
use Rattle.entry_lines.specs.Rows.{Row, LaneRows, new_row}
use Rattle.entry_lines.specs.Written.{Written, new_line}
use Rattle.entry_lines.specs.Laid.{AreLaid, rows_of}
use Rattle.entry_lines.proofs.Laying.{laid_entered, rows_entered}
use Rattle.entry_lines.proofs.Seen.{entered_long}
use Rattle.entry_lines.proofs.entry_lines.EntryLines.enter.Goals as goal

pub place_of-place-requires : goal.place_of-place-requires
place_of-place-requires c = c.self.invariant.1.policy (omega (arith, c.if-pairs-gt0.true, c.requires, ap {A = LaneRows} (λ b. b.room) c.self.view_is))

pub overflow_cast-place : goal.overflow_cast-place
overflow_cast-place c =
    let few = c.self.invariant.1.few_policies (omega (arith, c.if-pairs-gt0.true, c.requires, ap {A = LaneRows} (λ b. b.room) c.self.view_is)) in
    omega (arith, few, c.place_of-place.ensures.at_most, c.self.inside.policies.ok)

pub add_lines-requires : goal.add_lines-requires
add_lines-requires c = omega (arith, c.self.invariant.1.entries, c.requires, ap {A = LaneRows} (λ b. b.room) c.self.view_is)

pub invariant_of-self : goal.invariant_of-self
invariant_of-self c =
    let was = c.self.invariant.1 in
    let long = entered_long c.self.inside.lines.items c.args.pairs.now c.len-start.result c.place_of-place.result in
    let grown : length c.add_lines.new.lines.items ≡ length c.self.inside.lines.items + length c.args.pairs.now = ap {A = List Written} length c.add_lines.ensures.items ∙ long in
    let start : c.len-start.result ≡ length c.self.inside.attempts.items = omega (arith, c.len-start.ensures, c.self.inside.attempts.ok) in
    let items : c.add_lines.new.lines.items ≡ c.self.inside.lines.items ++ map {A = Pair} (λ pair. new_line pair (length c.self.inside.attempts.items) c.place_of-place.result) c.args.pairs.now =
    c.add_lines.ensures.items ∙ ap (λ (n : ℕ). c.self.inside.lines.items ++ map {A = Pair} (λ pair. new_line pair n c.place_of-place.result) c.args.pairs.now) start in (
      subst (λ (l : List Written). AreLaid l (length c.place_of-place.new.policies.items) (length c.self.inside.attempts.items)) (sym items)
          (laid_entered c.self.inside.lines.items c.args.pairs.now (length c.self.inside.policies.items) (length c.place_of-place.new.policies.items) (length c.self.inside.attempts.items) c.place_of-place.result
          c.self.invariant.0 c.place_of-place.ensures.longer c.place_of-place.ensures.there),
      record {
        entries = omega (arith, was.entries, c.add_lines.ensures.capacity, grown, c.add_lines.new.lines.ok, c.self.inside.lines.ok, c.requires, ap {A = LaneRows} (λ b. b.room) c.self.view_is);
        few = omega (arith, was.few, grown, c.add_lines.new.lines.ok, c.self.inside.lines.ok, c.requires, ap {A = LaneRows} (λ b. b.room) c.self.view_is);
        policy = λ some. omega (arith, some);
        few_policies = λ some. omega (arith, some);
        attempt = was.attempt;
        few_attempts = was.few_attempts;
      },
    )

pub returns-then-pairs-gt0-clause-rows : goal.returns-then-pairs-gt0-clause-rows
returns-then-pairs-gt0-clause-rows c =
    let start : c.len-start.result ≡ length c.self.inside.attempts.items = omega (arith, c.len-start.ensures, c.self.inside.attempts.ok) in
    let items : c.add_lines.new.lines.items ≡ c.self.inside.lines.items ++ map {A = Pair} (λ pair. new_line pair (length c.self.inside.attempts.items) c.place_of-place.result) c.args.pairs.now =
    c.add_lines.ensures.items ∙ ap (λ (n : ℕ). c.self.inside.lines.items ++ map {A = Pair} (λ pair. new_line pair n c.place_of-place.result) c.args.pairs.now) start in
    ap (rows_of c.place_of-place.new.policies.items c.self.inside.attempts.items) items
    ∙ rows_entered c.self.inside.lines.items c.self.inside.policies.items c.place_of-place.new.policies.items c.self.inside.attempts.items c.args.policy c.place_of-place.result c.args.pairs.now
    c.self.invariant.0 (record { there = c.place_of-place.ensures.there; here = c.place_of-place.ensures.here; longer = c.place_of-place.ensures.longer; at_most = c.place_of-place.ensures.at_most; others = c.place_of-place.ensures.others })
    ∙ ap {A = LaneRows} (λ b. b.rows ++ map (new_row c.args.policy) c.args.pairs.now) c.self.view_is
