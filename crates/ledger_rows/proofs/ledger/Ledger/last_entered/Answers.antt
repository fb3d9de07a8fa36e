use Rattle.std.proofs.Common.{List, ap, sym, ◌∙◌, subst}
use Rattle.sched_plain.specs.Entries.{instants_of}
use Rattle.plain_words.specs.Lists.{last}
use Rattle.entry_lines.specs.Rows.{LaneRows}
use Rattle.ledger_rows.specs.State.{State, Stands, pairs_in}
use Rattle.ledger_rows.proofs.ledger.Ledger.last_entered.Goals as goal

pub returns : goal.returns
returns c = λ calls stands.
    let here : Stands _ calls = subst (λ (s : State). Stands s calls) (sym c.self.view_is) stands in
    c.last_of.ensures
    ∙ ap (λ (l : List LaneRows). last (instants_of (pairs_in l c.args.inc))) c.deref.ensures.value
    ∙ ap (λ ps. last (instants_of ps)) (here.told.pairs c.args.inc)
