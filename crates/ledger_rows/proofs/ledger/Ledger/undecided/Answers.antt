use Rattle.std.proofs.Common.{ℕ, Option, List, length, ap, ap₂, sym, ◌∙◌, subst}
use Rattle.std.specs.List.{filter}
use Rattle.sched_plain.specs.declared.entry.Filed.{Filed}
use Rattle.sched_plain.specs.declared.step.Pair.{Pair}
use Rattle.sched_plain.specs.Entries.{instants_of, is_open}
use Rattle.ledger_rows.specs.Rows.{open_in}
use Rattle.entry_lines.specs.Rows.{LaneRows}
use Rattle.ledger_rows.specs.State.{State, Stands, lane_of}
use Rattle.ledger_rows.proofs.ledger.Ledger.undecided.Goals as goal

pub returns : goal.returns
returns c = λ calls stands.
    let here : Stands _ calls = subst (λ (s : State). Stands s calls) (sym c.self.view_is) stands in
    c.open_of.ensures
    ∙ ap (λ (l : List LaneRows). open_in (lane_of l c.args.inc).rows) c.deref.ensures.value
    ∙ ap₂ (λ (f : ℕ → Option Filed) (ps : List Pair). length (filter (λ k. is_open (f k)) (instants_of ps)))
    (λ t k. here.told.filed c.args.inc k t) (here.told.pairs c.args.inc)
