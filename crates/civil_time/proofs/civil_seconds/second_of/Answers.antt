use Rattle.std.proofs.Common.{arith}
use Rattle.std.proofs.lemmas.Int.{ints}
use Rattle.civil_time.proofs.CivilSeconds.{civil_second-high}
use Rattle.civil_time.proofs.civil_seconds.second_of.Goals as goal

pub returns-clause-bound : goal.returns-clause-bound
returns-clause-bound c =
    omega (arith, ints, c.library_time.ensures.second, c.to_second.ensures.value, civil_second-high c.args.d c.requires)
