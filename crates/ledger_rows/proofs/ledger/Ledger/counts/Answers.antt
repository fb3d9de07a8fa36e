use Rattle.std.proofs.Common.{List, length, sym, ap, ◌∙◌, subst}
use Rattle.std.specs.List.{flat_map}
use Rattle.plain_words.specs.Lists.{numbers}
use Rattle.ledger_rows.specs.Counting.{counted}
use Rattle.entry_lines.specs.Rows.{LaneRows}
use Rattle.ledger_rows.specs.State.{State, Stands, lane_standings}
use Rattle.ledger_rows.proofs.Tallies.{all_are}
use Rattle.ledger_rows.proofs.ledger.Ledger.counts.Goals as goal

pub returns : goal.returns
returns c = λ calls created stands within.
    let here : Stands _ calls = subst (λ (s : State). Stands s calls) (sym c.self.view_is) stands in
    c.counts_of.ensures
    ∙ ap (λ (l : List LaneRows). counted (flat_map (lane_standings l c.args.now.0) (numbers 0 (length l)))) c.deref.ensures.value
    ∙ ap counted (all_are c.self.inside.lanes.items calls created c.args.now.0 here.told within)
