use Rattle.std.proofs.Common.{rules, ◌≡◌, ◌∙◌, sym, ap, arith, ◌<◌}
use Rattle.std.specs.Option.{option_map}
use Rattle.step_rules.specs.Looked.{occurrence_of}
use Rattle.book_parts.proofs.TouchedLemmas.{search_begins, search_finds, search_passes, search_ends, search_rises}
use Rattle.book_parts.proofs.touching.first_open.Goals as goal

pub loop-inc-init : goal.loop-inc-init
loop-inc-init c = search_begins c.args.next.now.dates c.args.at.0 c.args.rows.now.rows c.args.write.now

pub returns-in-Some-come_at : goal.returns-in-Some-come_at
returns-in-Some-come_at c =
    search_finds c.args.next.now.dates c.args.at.0 c.args.rows.now.rows c.args.write.now c.loop-inc.after c.in-Some.inc (occurrence_of c.in-Some-come_at.found)
    (sym c.next_touched.ensures ∙ c.in-Some.is) (sym c.come_at.ensures ∙ ap (option_map occurrence_of) c.in-Some-come_at.is) c.loop-inc.invariant

pub loop-inc-smaller : goal.loop-inc-smaller
loop-inc-smaller c =
    let rises = search_rises c.args.rows.now.rows c.args.write.now c.loop-inc.after c.in-Some.inc (sym c.next_touched.ensures ∙ c.in-Some.is) in
    omega (arith, rises)

pub loop-inc-preserved : goal.loop-inc-preserved
loop-inc-preserved c =
    search_passes c.args.next.now.dates c.args.at.0 c.args.rows.now.rows c.args.write.now c.loop-inc.after c.in-Some.inc
    (sym c.next_touched.ensures ∙ c.in-Some.is) (sym c.come_at.ensures ∙ ap (option_map occurrence_of) c.in_default-come_at.is) c.loop-inc.invariant

pub returns : goal.returns
returns c =
    search_ends c.args.next.now.dates c.args.at.0 c.args.rows.now.rows c.args.write.now c.loop-inc.after
    (sym c.next_touched.ensures ∙ c.in_default.is) c.loop-inc.invariant
