use Rattle.std.proofs.Common.{◌&&◌, List, refl, ◌∙◌, subst}
use Rattle.sched_plain.specs.Entries.{is_lost_in}
use Rattle.ledger_rows.specs.declared.row.Flight.{Flight}
use Rattle.ledger_rows.specs.Air.{is_flown}
use Rattle.ledger_rows.specs.State.{Loses}
use Rattle.ledger_rows.proofs.Losses.{lost_none, lost_more}
use Rattle.ledger_rows.proofs.Tallies.{all_taken}
use Rattle.ledger_rows.proofs.ledger.lose_in.Goals as goal

pub loop-flight-init : goal.loop-flight-init
loop-flight-init c = record { shelved = c.requires.shelved; long = refl; loses = lost_none c.args.lanes.now.items c.args.shard c.args.at.0 }

pub loop-flight-preserved : goal.loop-flight-preserved
loop-flight-preserved c = record {
  shelved = c.lose_flight.ensures.shelved;
  long = c.lose_flight.ensures.length ∙ c.loop-flight.invariant.long;
  loses = lost_more c.args.lanes.now.items c.loop-flight.lanes.items c.lose_flight.new.lanes.items c.args.shard c.args.at.0 c.args.flights.now c.loop-flight.flight-index _
      c.loop-flight-test.true c.loop-flight.invariant.loses c.lose_flight.ensures.loses;
}

pub returns-clause-loses : goal.returns-clause-loses
returns-clause-loses c =
    subst (λ (l : List Flight). Loses c.args.lanes.now.items c.loop-flight.lanes.items (λ i k. is_lost_in c.args.shard i && is_flown l i k) c.args.at.0)
    (all_taken c.args.flights.now c.loop-flight.flight-index c.loop-flight-test.false) c.loop-flight.invariant.loses
