use Rattle.std.proofs.Common.{◌≡◌, [], ◌∷◌, length, Some, sym, ap, subst, ◌∙◌}
use Rattle.atomic_table.specs.Table.{opening}
use Rattle.turn_desk.specs.Turns.{Rule}
use Rattle.turn_desk.specs.Knowing.{knows_value}
use Rattle.turn_desk.specs.declared.known.View.TheVariants.{Free}
use Rattle.turn_desk.proofs.Kept.{begins}
use Rattle.turn_desk.proofs.desk.Desk.new.Goals as goal

pub new-requires : goal.new-requires
new-requires g c =
    let same : c.of-about.result.value ≡ c.args.value = c.of-about.ensures in
    let count : c.count-count.result ≡ length (g.T.Recorded.entries c.of-about.result.value) = c.count-count.ensures ∙ ap (λ x. length (g.T.Recorded.entries x)) (sym same) in
    let items : c.in_ok-slots.slots.items ≡ Some c.of-about.result.value ∷ [] = c.in_ok-slots.ensures.ok ∙ ap (λ x. Some x ∷ []) (sym same) in
    subst (λ xs. Rule g.T.Recorded.entries g.T.Recorded.gauge (opening (0 ∷ 0 ∷ c.count-count.result ∷ []) xs (Free (knows_value (g.T.Recorded.entries c.of-about.result.value) (g.T.Recorded.gauge c.of-about.result.value))))) (sym items)
    (begins g.T.Recorded.entries g.T.Recorded.gauge c.of-about.result.value c.count-count.result count)
