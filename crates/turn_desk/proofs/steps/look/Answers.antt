use Rattle.std.proofs.Common.{◌≡◌, arith}
use Rattle.turn_desk.proofs.Kept.{looks_as}
use Rattle.turn_desk.proofs.steps.look.Goals as goal

pub load-requires : goal.load-requires
load-requires g c = let w : c.args.top.now.table_id.words ≡ 3 = c.requires.table.1.0 in (c.requires.table.0, (omega arith), looks_as g.T.Recorded.entries g.T.Recorded.gauge _ _ _ _ _ c.requires.waits)
