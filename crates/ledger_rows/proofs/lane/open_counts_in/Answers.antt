use Rattle.std.proofs.Common.{◌<◌, length, ap, ◌∙◌, arith}
use Rattle.sched_plain.specs.declared.entry.Filed.{Filed}
use Rattle.sched_plain.specs.Standing.{standing_of}
use Rattle.ledger_rows.proofs.BlockLemmas.{numbers_long}
use Rattle.ledger_rows.proofs.OpenSums.{counts_end, counts_one, upto_few}
use Rattle.ledger_rows.proofs.lane.open_counts_in.Goals as goal

pub with_standing-counts-requires : goal.with_standing-counts-requires
with_standing-counts-requires c =
    upto_few c.args.now.0 c.args.rows.now.rows c.loop-place.from _ c.loop-place.counts (omega (arith, c.len-few.ensures.value, c.len-few.ensures.few)) c.loop-place.invariant.value

pub loop-place-smaller : goal.loop-place-smaller
loop-place-smaller c =
    let inside = c.in-Some.ensures.some.in_range in
    let behind = c.in-Some.ensures.some.behind in
    let long = numbers_long c.args.rows.now.rows in omega (arith, inside, behind, long)

pub loop-place-preserved : goal.loop-place-preserved
loop-place-preserved c =
    let rows = c.args.rows.now.rows in
    let first = c.in-Some.ensures.some in
    let inside = first.in_range in
    let long = numbers_long rows in
    let within : c.in-Some.place < length rows = omega (arith, inside, long) in
    record {
      value = counts_one c.args.now.0 rows c.loop-place.from c.in-Some.place c.loop-place.counts c.with_standing-counts.result c.stands.result c.requires.order first within
          c.loop-place.invariant.value (c.stands.ensures ∙ ap (λ (f : Filed). standing_of f c.args.now.0) c.filed.ensures) c.with_standing-counts.ensures;
      within = omega (arith, within);
    }

pub returns-clause-value : goal.returns-clause-value
returns-clause-value c =
    counts_end c.args.now.0 c.args.rows.now.rows c.loop-place.from c.loop-place.counts c.requires.order c.loop-place.invariant.within c.in_default.ensures.none c.loop-place.invariant.value

pub returns-clause-few : goal.returns-clause-few
returns-clause-few c =
    upto_few c.args.now.0 c.args.rows.now.rows c.loop-place.from _ c.loop-place.counts (omega (arith, c.len-few.ensures.value, c.len-few.ensures.few)) c.loop-place.invariant.value
