use Rattle.http_wire.proofs.HeaderLemmas.{values_in-next}
use Rattle.http_wire.proofs.framing.header_values.value_of.Goals as goal

pub loop-header-preserved : goal.loop-header-preserved
loop-header-preserved c =
    let joined = rw (c.same_name-same.ensures, c.of.ensures, c.of-in-loop-header.ensures) at (c.joined-found.ensures _ c.loop-header.invariant) in
    rw (values_in-next c.args.head.now c.args.name.now c.args.headers.now c.loop-header.header-index c.loop-header-test.true) joined
