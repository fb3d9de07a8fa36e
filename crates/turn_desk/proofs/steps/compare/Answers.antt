use Rattle.std.proofs.Common.{◌≡◌, arith}
use Rattle.turn_desk.proofs.Kept.{compares_as}
use Rattle.turn_desk.proofs.steps.compare.Goals as goal

pub load-requires : goal.load-requires
load-requires g c = let w : c.args.top.now.table_id.words ≡ 3 = c.requires.table.1.0 in (c.requires.table.0, (omega arith), compares_as g.T.Recorded.entries g.T.Recorded.gauge _ _ _ _ _ c.requires.beside)
