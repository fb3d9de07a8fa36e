use Rattle.std.proofs.Common.{ap, arith, Some}
use Rattle.std.proofs.lemmas.Grind.{common_steps}
use Rattle.http_wire.proofs.ByteLemmas.{front-copied}
use Rattle.http_wire.proofs.source.MemSourceSource.read.Goals as goal

pub returns-clause-gives : goal.returns-clause-gives
returns-clause-gives c = ap Some (grind (arith, common_steps, front-copied))
