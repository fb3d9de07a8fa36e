use Rattle.std.proofs.Common.{◌≡◌, ◌∷◌, Some, ap, ◌∙◌, arith}
use Rattle.atomic_table.specs.Table.{rest}
use Rattle.turn_desk.proofs.Kept.{tells_as}
use Rattle.turn_desk.proofs.steps.tally.Goals as goal

pub store-requires : goal.store-requires
store-requires g c = let w : c.args.top.now.table_id.words ≡ 3 = c.requires.table.1.0 in let e = c.exchange-before.ensures in
    let now = e.3 ∙ ap (λ m. (m.0, (0, Some c.args.value) ∷ rest m.1)) c.requires.turn in
    (e.0 ∙ c.requires.table.0, (omega arith), tells_as g.T.Recorded.entries g.T.Recorded.gauge _ _ _ _ _ _ c.args.value c.count-count.result now c.requires.value c.count-count.ensures)
