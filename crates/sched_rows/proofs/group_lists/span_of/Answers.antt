use Rattle.std.proofs.Common.{option_map}
use Rattle.sched_rows.proofs.GroupPageLemmas.{group_span_shows}
use Rattle.sched_rows.proofs.group_lists.span_of.Goals as goal

pub returns : goal.returns
returns c =
    let from = rw c.as_bytes.ensures.value at c.place_of-from.ensures in
    let to = rw c.as_bytes-2.ensures.value at c.place_of-to.ensures in
    group_span_shows c.args.groups.now c.args.places.now c.args.prefix.now (option_map (λ n. n.now) c.args.after) c.start_of-behind.result c.place_of-from.result c.place_of-to.result
    c.max-start.result c.max-end.result c.requires c.start_of-behind.ensures.place from to c.max-start.ensures c.max-end.ensures
