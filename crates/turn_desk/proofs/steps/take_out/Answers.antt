use Rattle.std.proofs.Common.{◌≡◌, ◌∷◌, Some, sym, ap, ◌∙◌, arith}
use Rattle.atomic_table.specs.Table.{rest}
use Rattle.turn_desk.proofs.Kept.{take_out_as}
use Rattle.turn_desk.proofs.steps.take_out.Goals as goal

pub load-requires : goal.load-requires
load-requires g c = let w : c.args.top.now.table_id.words ≡ 3 = c.requires.table.1.0 in (c.requires.table.0, (omega arith), take_out_as g.T.Recorded.entries g.T.Recorded.gauge _ _ _ _ _ c.requires.called)

pub exchange-requires : goal.exchange-requires
exchange-requires g c = let t = c.load.ensures.2 in let carried = ap (λ m. m.1) t.2 in
    (c.load.ensures.0 ∙ c.requires.table.0, (Some t.0, carried ∙ ap (λ cs. (0, Some t.0) ∷ rest cs) (sym carried)))
