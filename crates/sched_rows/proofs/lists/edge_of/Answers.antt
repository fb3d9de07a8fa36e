use Rattle.std.proofs.Common.{subst, sym, option_map}
use Rattle.sched_rows.specs.Filing.{IsEdge}
use Rattle.sched_rows.proofs.lists.edge_of.Goals as goal

pub returns-in-None-clause-place : goal.returns-in-None-clause-place
returns-in-None-clause-place c =
    subst (λ group. IsEdge c.args.rows.now c.args.numbers.now (option_map (λ g. g.now) group) c.args.prefix.now c.args.edge c.end_of.result) (sym c.in-None.is)
    (c.end_of.ensures.place c.args.rows.now c.args.prefix.now)
