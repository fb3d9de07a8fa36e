use Rattle.std.proofs.Common.{ℕ, ◌+◌, Option, List, take, sym, subst}
use Rattle.ledger_rows.specs.declared.row.Flight.{Flight}
use Rattle.ledger_rows.specs.Wanting.{IsFirstOf}
use Rattle.ledger_rows.proofs.Tallies.{all_taken}
use Rattle.ledger_rows.proofs.FlightLemmas.{none_seen, first_step, seen_waited, waited_all}
use Rattle.ledger_rows.proofs.waiting.first_live_of.Goals as goal

pub loop-flight-init : goal.loop-flight-init
loop-flight-init c = none_seen c.args.lanes.now c.args.shard

pub loop-flight-preserved : goal.loop-flight-preserved
loop-flight-preserved c =
    subst (λ (o : Option (ℕ × ℕ)). IsFirstOf (seen_waited c.args.lanes.now (take (c.loop-flight.flight-index + 1) c.args.flights.now)) c.args.shard o) (sym c.first_with-first.ensures)
    (first_step c.args.lanes.now c.args.flights.now c.loop-flight.flight-index c.args.shard _ c.loop-flight.first c.loop-flight-test.true c.loop-flight.invariant)

pub returns : goal.returns
returns c =
    waited_all c.args.lanes.now c.args.flights.now c.args.shard c.loop-flight.first c.requires
    (subst (λ (l : List Flight). IsFirstOf (seen_waited c.args.lanes.now l) c.args.shard c.loop-flight.first)
    (all_taken c.args.flights.now c.loop-flight.flight-index c.loop-flight-test.false) c.loop-flight.invariant)
