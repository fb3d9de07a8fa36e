use Rattle.std.proofs.Common.{◌+◌, ◌*◌, ap, ◌∙◌, arith}
use Rattle.std.proofs.lemmas.List.{get_or_default}
use Rattle.plain_words.specs.declared.limits.TheConstants.{SHARDS}
use Rattle.entry_lines.specs.Rows.{LaneRows}
use Rattle.ledger_rows.specs.Rows.{standings_looked}
use Rattle.ledger_rows.specs.State.{no_lane}
use Rattle.ledger_rows.specs.Tallying.{open_counts, together}
use Rattle.ledger_rows.proofs.OpenSums.{open_place, shard_begins, shard_ends, shard_few, shard_lane}
use Rattle.ledger_rows.proofs.ledger.open_counts_in.Goals as goal

pub loop-place-init : goal.loop-place-init
loop-place-init c = shard_begins c.args.lanes.now c.args.now.0 c.args.shard c.no_counts-counts.result c.no_counts-counts.ensures

pub overflow_mul-lane : goal.overflow_mul-lane
overflow_mul-lane c =
    let within = open_place c.args.lanes.now c.args.shelves.now c.args.shard c.loop-place.from c.in-Some.place c.requires.shelved c.requires.shard c.in-Some.ensures.some in
    omega (arith, within, c.requires.few)

pub overflow_add-lane : goal.overflow_add-lane
overflow_add-lane c =
    let within = open_place c.args.lanes.now c.args.shelves.now c.args.shard c.loop-place.from c.in-Some.place c.requires.shelved c.requires.shard c.in-Some.ensures.some in
    omega (arith, within, c.requires.few)

pub offset_bounds-lanes-place : goal.offset_bounds-lanes-place
offset_bounds-lanes-place c =
    let within = open_place c.args.lanes.now c.args.shelves.now c.args.shard c.loop-place.from c.in-Some.place c.requires.shelved c.requires.shard c.in-Some.ensures.some in
    omega (arith, within, c.requires.few)

pub bounds-lanes-place : goal.bounds-lanes-place
bounds-lanes-place c = open_place c.args.lanes.now c.args.shelves.now c.args.shard c.loop-place.from c.in-Some.place c.requires.shelved c.requires.shard c.in-Some.ensures.some

pub together-counts-requires : goal.together-counts-requires
together-counts-requires c =
    let inc = c.in-Some.place * SHARDS + c.args.shard in
    let first = c.in-Some.ensures.some in
    let within = open_place c.args.lanes.now c.args.shelves.now c.args.shard c.loop-place.from c.in-Some.place c.requires.shelved c.requires.shard first in
    let lane = get_or_default c.args.lanes.now inc c.index-lanes-place.result no_lane within in
    let more = c.open_counts.ensures.value ∙ ap (λ (l : LaneRows). open_counts (standings_looked c.args.now.0 l.rows)) (c.index-lanes-place.is ∙ lane) in
    shard_few c.args.lanes.now c.args.now.0 c.args.shard (c.in-Some.place + 1) (together c.loop-place.counts c.open_counts.result) c.requires.few c.requires.entries
    (shard_lane c.args.lanes.now c.args.shelves.now c.args.now.0 c.args.shard c.loop-place.from c.in-Some.place c.loop-place.counts c.open_counts.result c.requires.shelved c.requires.shard
    first c.loop-place.invariant more)

pub overflow_add-from : goal.overflow_add-from
overflow_add-from c =
    let within = open_place c.args.lanes.now c.args.shelves.now c.args.shard c.loop-place.from c.in-Some.place c.requires.shelved c.requires.shard c.in-Some.ensures.some in
    omega (arith, within, c.requires.few)

pub loop-place-preserved : goal.loop-place-preserved
loop-place-preserved c =
    let inc = c.in-Some.place * SHARDS + c.args.shard in
    let first = c.in-Some.ensures.some in
    let within = open_place c.args.lanes.now c.args.shelves.now c.args.shard c.loop-place.from c.in-Some.place c.requires.shelved c.requires.shard first in
    let lane = get_or_default c.args.lanes.now inc c.index-lanes-place.result no_lane within in
    let more = c.open_counts.ensures.value ∙ ap (λ (l : LaneRows). open_counts (standings_looked c.args.now.0 l.rows)) (c.index-lanes-place.is ∙ lane) in
    c.together-counts.ensures
    ∙ shard_lane c.args.lanes.now c.args.shelves.now c.args.now.0 c.args.shard c.loop-place.from c.in-Some.place c.loop-place.counts c.open_counts.result c.requires.shelved c.requires.shard
    first c.loop-place.invariant more

pub returns : goal.returns
returns c =
    shard_ends c.args.lanes.now c.args.shelves.now c.args.now.0 c.args.shard c.loop-place.from c.loop-place.counts c.requires.shelved c.in_default.ensures.none c.loop-place.invariant
