use Rattle.std.proofs.Common.{pos, arith}
use Rattle.std.proofs.lemmas.Int.{ints}
use Rattle.zone_occ.proofs.scan.is_past.Goals as goal

pub returns : goal.returns
returns c test d i later shown =
    let near = c.bounds.ensures.near d (pos i) shown in
    omega (arith, ints, near.1, later, test)
