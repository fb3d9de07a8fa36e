use Rattle.std.proofs.Common.{◌≡◌, arith}
use Rattle.turn_desk.proofs.Kept.{gives_back_as}
use Rattle.turn_desk.proofs.steps.give_back.Goals as goal

pub load-requires : goal.load-requires
load-requires g c = let w : c.args.top.now.table_id.words ≡ 3 = c.requires.table.1.0 in let t = c.requires.told in (c.requires.table.0, (omega arith), gives_back_as g.T.Recorded.entries g.T.Recorded.gauge _ _ _ _ _ t.0 t.1 t.2 t.3 t.4)
