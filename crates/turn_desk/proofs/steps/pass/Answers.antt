use Rattle.std.proofs.Common.{◌≡◌, arith}
use Rattle.turn_desk.proofs.Kept.{passes_as}
use Rattle.turn_desk.proofs.steps.pass.Goals as goal

pub fetch_add-served-requires : goal.fetch_add-served-requires
fetch_add-served-requires g c = let w : c.args.top.now.table_id.words ≡ 3 = c.requires.table.1.0 in (c.requires.table.0, (omega arith), passes_as g.T.Recorded.entries g.T.Recorded.gauge _ _ _ _ _ c.requires.returned)
