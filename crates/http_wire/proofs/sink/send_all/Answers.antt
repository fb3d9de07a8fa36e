use Rattle.std.proofs.Common.{rules, arith}
use Rattle.std.proofs.lemmas.Grind.{common_steps}
use Rattle.http_wire.proofs.DeviceLemmas.{Gets-more}
use Rattle.http_wire.proofs.sink.send_all.Goals as goal

pub pieces-preserved : goal.pieces-preserved
pieces-preserved g c = record {
  within = grind (arith, common_steps);
  taken = Gets-more _ _ _ _ _ _ c.pieces.invariant.taken c.in-Ok.ensures.takes;
  quiet = search rules;
}
