use Rattle.std.proofs.Common.{arith}
use Rattle.ledger_rows.proofs.FlightLemmas.{flown_decided}
use Rattle.sched_plain.specs.Entries.{decided_as, outcome_of}
use Rattle.ledger_rows.proofs.LastLive.{last_decided}
use Rattle.ledger_rows.proofs.Tallied.{others_told, read_again, read_among, tallied_few}
use Rattle.ledger_rows.proofs.ledger.Ledger.close.Goals as goal

pub replace-requires-clause-among : goal.replace-requires-clause-among
replace-requires-clause-among c = read_among c.self.inside.lanes.items c.deref.result.now c.args.inc c.self.inside.tally c.tally_in-before.result c.self.invariant.4 c.deref.ensures.value c.tally_in-before.ensures.value

pub replace-requires-clause-few : goal.replace-requires-clause-few
replace-requires-clause-few c = tallied_few c.self.inside.lanes.items c.self.inside.tally c.self.invariant.0 c.self.invariant.4

pub invariant_of-self : goal.invariant_of-self
invariant_of-self c = (
  omega (arith, c.close_in.ensures.length, c.self.invariant.0),
  c.close_in.ensures.shelved,
  flown_decided c.self.inside.lanes.items c.close_in.new.lanes.items c.self.inside.flights.items c.args.inc c.args.instant (outcome_of c.args.reason) (λ before. before) c.close_in.ensures.changes c.self.invariant.2,
  last_decided c.self.inside.lanes.items c.close_in.new.lanes.items c.args.inc c.args.instant (outcome_of c.args.reason) c.close_in.ensures.changes c.self.invariant.3,
  read_again c.self.inside.lanes.items c.close_in.new.lanes.items c.deref.result.now c.deref-2.result.now c.args.inc c.self.inside.tally c.tally_in-before.result c.tally_in.result c.replace.new.tally c.self.invariant.4
      (others_told c.self.inside.lanes.items c.close_in.new.lanes.items c.args.inc c.args.instant (decided_as (outcome_of c.args.reason)) (λ before. before) c.close_in.ensures.length c.close_in.ensures.changes)
      c.deref.ensures.value c.deref-2.ensures.value c.tally_in-before.ensures.value c.tally_in.ensures.value c.tally_in.ensures.few c.replace.ensures,
)
