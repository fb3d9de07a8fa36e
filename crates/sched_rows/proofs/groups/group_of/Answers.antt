use Rattle.std.proofs.Common.{◌∙◌, arith}
use Rattle.sched_rows.proofs.GroupSearch.{group_found, group_past}
use Rattle.sched_rows.proofs.groups.group_of.Goals as goal

-- no group stands at the place
pub returns-then-index-places : goal.returns-then-index-places
returns-then-index-places c =
    let place = rw c.as_bytes.ensures.value at c.place_of-index.ensures in
    group_past c.args.groups.now c.args.places.now c.args.name.now c.place_of-index.result c.requires place (omega arith)

-- one does, and may have the name
pub returns : goal.returns
returns c =
    let place = rw c.as_bytes.ensures.value at c.place_of-index.ensures in
    c.named_at.ensures ∙ group_found c.args.groups.now c.args.places.now c.args.name.now c.place_of-index.result c.requires place (omega arith)
