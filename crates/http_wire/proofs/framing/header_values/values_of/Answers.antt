use Rattle.http_wire.proofs.HeaderLemmas.{values_in-next}
use Rattle.http_wire.proofs.framing.header_values.values_of.Goals as goal

pub loop-header-preserved : goal.loop-header-preserved
loop-header-preserved c =
    let next = values_in-next c.args.head.now c.args.name.now c.args.headers.now c.loop-header.header-index c.loop-header-test.true in
    rw (next, ← c.of.ensures, ← c.of-in-loop-header.ensures, ← c.same_name-same.ensures, ← c.loop-header.invariant) c.in_ok-add_if.ensures
