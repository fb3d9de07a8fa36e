use Rattle.std.proofs.Common.{sym, ◌∙◌}
use Rattle.ledger_rows.proofs.Losses.{flight_lost, flight_stays}
use Rattle.ledger_rows.proofs.ledger.lose_flight.Goals as goal

pub returns-then-is_lost_in-clause-loses : goal.returns-then-is_lost_in-clause-loses
returns-then-is_lost_in-clause-loses c =
    flight_lost c.args.lanes.now.items c.lose_at.new.lanes.items c.args.shard c.args.at.0 c.args.flight (sym c.is_lost_in.ensures ∙ c.if-is_lost_in.true) c.lose_at.ensures.changes

pub returns-else-is_lost_in-clause-loses : goal.returns-else-is_lost_in-clause-loses
returns-else-is_lost_in-clause-loses c =
    flight_stays c.args.lanes.now.items c.args.shard c.args.at.0 c.args.flight (sym c.is_lost_in.ensures ∙ c.if-is_lost_in.false)
