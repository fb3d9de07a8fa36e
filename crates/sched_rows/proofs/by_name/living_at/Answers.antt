use Rattle.std.proofs.Common.{arith, sym, ◌∙◌, true, false}
use Rattle.sched_rows.proofs.LivingLemmas.{living_found, living_past}
use Rattle.sched_rows.proofs.by_name.living_at.Goals as goal

-- no row stands at the place
pub returns-then-place-numbers : goal.returns-then-place-numbers
returns-then-place-numbers c =
    let place = rw (c.as_bytes.ensures.value, c.as_bytes-2.ensures.value) at c.place_of-place.ensures in
    living_past c.args.rows.now c.args.numbers.now c.args.group.now c.args.name.now c.place_of-place.result c.requires place (omega arith)

-- the row that stands there has the name
pub returns-then-is_called : goal.returns-then-is_called
returns-then-is_called c =
    let place = rw (c.as_bytes.ensures.value, c.as_bytes-2.ensures.value) at c.place_of-place.ensures in
    living_found c.args.rows.now c.args.numbers.now c.args.group.now c.args.name.now c.place_of-place.result c.requires place (omega arith) true (sym c.is_called.ensures ∙ c.if-is_called.true)

-- the row that stands there has another
pub returns-else-is_called : goal.returns-else-is_called
returns-else-is_called c =
    let place = rw (c.as_bytes.ensures.value, c.as_bytes-2.ensures.value) at c.place_of-place.ensures in
    living_found c.args.rows.now c.args.numbers.now c.args.group.now c.args.name.now c.place_of-place.result c.requires place (omega arith) false (sym c.is_called.ensures ∙ c.if-is_called.false)
