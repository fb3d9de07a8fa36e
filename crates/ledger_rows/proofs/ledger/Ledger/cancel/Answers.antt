use Rattle.std.proofs.Common.{arith, sym, subst}
use Rattle.ledger_rows.specs.State.{State, Stands}
use Rattle.ledger_rows.proofs.Standing.{cancel_told}
use Rattle.ledger_rows.proofs.FlightLemmas.{flown_cancelled}
use Rattle.ledger_rows.proofs.LastLive.{last_cancelled}
use Rattle.ledger_rows.proofs.Tallied.{others_cancelled, read_again, read_among, tallied_few}
use Rattle.ledger_rows.proofs.ledger.Ledger.cancel.Goals as goal

pub replace-requires-clause-among : goal.replace-requires-clause-among
replace-requires-clause-among c = read_among c.self.inside.lanes.items c.deref.result.now c.args.inc c.self.inside.tally c.tally_in-before.result c.self.invariant.4 c.deref.ensures.value c.tally_in-before.ensures.value

pub replace-requires-clause-few : goal.replace-requires-clause-few
replace-requires-clause-few c = tallied_few c.self.inside.lanes.items c.self.inside.tally c.self.invariant.0 c.self.invariant.4

pub invariant_of-self : goal.invariant_of-self
invariant_of-self c = (
  omega (arith, c.cancel_in.ensures.length, c.self.invariant.0),
  c.cancel_in.ensures.shelved,
  flown_cancelled c.self.inside.lanes.items c.cancel_in.new.lanes.items c.self.inside.flights.items c.args.inc c.cancel_in.ensures.rows c.self.invariant.2,
  last_cancelled c.self.inside.lanes.items c.cancel_in.new.lanes.items c.args.inc c.cancel_in.ensures.rows c.self.invariant.3,
  read_again c.self.inside.lanes.items c.cancel_in.new.lanes.items c.deref.result.now c.deref-2.result.now c.args.inc c.self.inside.tally c.tally_in-before.result c.tally_in.result c.replace.new.tally c.self.invariant.4
      (others_cancelled c.self.inside.lanes.items c.cancel_in.new.lanes.items c.args.inc c.cancel_in.ensures.length c.cancel_in.ensures.rows)
      c.deref.ensures.value c.deref-2.ensures.value c.tally_in-before.ensures.value c.tally_in.ensures.value c.tally_in.ensures.few c.replace.ensures,
)

pub returns-clause-stands : goal.returns-clause-stands
returns-clause-stands c = λ calls stands.
    let before : Stands _ calls = subst (λ (s : State). Stands s calls) (sym c.self.view_is) stands in
    record { told = cancel_told c.self.inside.lanes.items c.cancel_in.new.lanes.items c.args.inc calls c.cancel_in.ensures.rows before.told; air = before.air }
