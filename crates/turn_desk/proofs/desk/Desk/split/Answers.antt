use Rattle.std.proofs.Common.{◌≡◌, ap, ◌∙◌, arith}
use Rattle.turn_desk.proofs.Kept.{splits_as}
use Rattle.turn_desk.proofs.desk.Desk.split.Goals as goal

pub split_seat-split_off-requires : goal.split_seat-split_off-requires
split_seat-split_off-requires g c = let w : c.args.self.now.table.shared.table_id.words ≡ 3 = c.args.self.now.sized.0 in let at = ap (λ p. p.me.0) c.into_place-place.ensures ∙ ap (λ m. m.0) c.requires.free in
    (ap (λ p. p.table_id) c.into_place-place.ensures ∙ c.requires.desk, (omega arith), splits_as g.T.Recorded.entries g.T.Recorded.gauge _ _ _ at)
