use Rattle.std.proofs.Common.{pos, arith}
use Rattle.std.proofs.lemmas.Int.{ints, clamps}
use Rattle.civil_time.proofs.CivilSeconds.{civil_second-high}
use Rattle.zone_occ.proofs.scan.scan_start.Goals as goal

pub returns-clause-early : goal.returns-clause-early
returns-clause-early c d i real shown late =
    let near = c.bounds.ensures.near d (pos i) shown in
    omega (arith, ints, clamps, near.0, civil_second-high d real)
