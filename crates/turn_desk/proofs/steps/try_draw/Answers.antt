use Rattle.std.proofs.Common.{◌≡◌, refl, arith}
use Rattle.turn_desk.proofs.Kept.{draws_as}
use Rattle.turn_desk.proofs.steps.try_draw.Goals as goal

pub compare_exchange-requires : goal.compare_exchange-requires
compare_exchange-requires g c = let w : c.args.top.now.table_id.words ≡ 3 = c.requires.table.1.0 in (c.requires.table.0, (omega arith), draws_as g.T.Recorded.entries g.T.Recorded.gauge _ _ _ _ _ _ c.requires.free c.requires.room refl)
