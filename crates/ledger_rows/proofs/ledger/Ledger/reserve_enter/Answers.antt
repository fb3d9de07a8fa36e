use Rattle.ledger_rows.proofs.FlightLemmas.{flown_same}
use Rattle.ledger_rows.proofs.LastLive.{last_same}
use Rattle.ledger_rows.proofs.Tallied.{tallied_same}
use Rattle.ledger_rows.proofs.ledger.Ledger.reserve_enter.Goals as goal

pub invariant_of-self : goal.invariant_of-self
invariant_of-self c = (
  c.reserve_in.ensures.few,
  c.reserve_in.ensures.shelved,
  flown_same c.self.inside.lanes.items c.reserve_in.new.lanes.items c.self.inside.flights.items c.reserve_in.ensures.rows c.self.invariant.2,
  last_same c.self.inside.lanes.items c.reserve_in.new.lanes.items c.reserve_in.ensures.rows c.self.invariant.3,
  tallied_same c.self.inside.lanes.items c.reserve_in.new.lanes.items c.self.inside.tally c.reserve_in.ensures.rows c.self.invariant.4,
)
