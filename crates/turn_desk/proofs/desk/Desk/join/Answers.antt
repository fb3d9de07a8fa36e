use Rattle.std.proofs.Common.{◌≡◌, ap, ◌∙◌, arith}
use Rattle.turn_desk.proofs.Kept.{joins_as}
use Rattle.turn_desk.proofs.desk.Desk.join.Goals as goal

pub join_seat-requires : goal.join_seat-requires
join_seat-requires g c = let w : c.args.self.now.table.shared.table_id.words ≡ 3 = c.args.self.now.sized.0 in
    let at = ap (λ p. p.me.0) c.into_place-place.ensures ∙ ap (λ m. m.0) c.requires.free.0 in
    let there = ap (λ p. p.me.0) c.into_place.ensures ∙ ap (λ m. m.0) c.requires.free.1 in (
      ap (λ p. p.table_id) c.into_place-place.ensures ∙ c.requires.desk.0,
      ap (λ p. p.table_id) c.into_place.ensures ∙ c.requires.desk.1,
      ap (λ p. p.me.1) c.into_place.ensures ∙ ap (λ m. m.1) c.requires.free.1,
      (omega arith),
      joins_as g.T.Recorded.entries g.T.Recorded.gauge _ _ _ _ _ _ at there,
    )
