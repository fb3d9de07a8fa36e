use Rattle.std.proofs.Common.{ℕ, List, option_map}
use Rattle.sched_rows.proofs.PageLemmas.{span_shows}
use Rattle.sched_rows.proofs.lists.span_of.Goals as goal

pub returns : goal.returns
returns c = λ enabled.
    span_shows c.args.rows.now c.args.numbers.now (option_map (λ g. g.now) c.args.group) c.args.prefix.now enabled
    (option_map {U = List ℕ × List ℕ} (λ names. (names.0.now, names.1.now)) c.args.after) c.start_of-behind.result c.edge_of-from.result c.edge_of-to.result
    c.max-start.result c.max-end.result c.requires c.start_of-behind.ensures.place c.edge_of-from.ensures.place c.edge_of-to.ensures.place
    c.max-start.ensures c.max-end.ensures
