use Rattle.std.proofs.Common.{arith, List, sym, subst}
use Rattle.ledger_rows.specs.State.{State, Stands, RowsAre, rows_entered}
use Rattle.sched_plain.specs.declared.step.Pair.{Pair}
use Rattle.ledger_rows.proofs.Standing.{enter_told}
use Rattle.ledger_rows.proofs.FlightLemmas.{flown_entered}
use Rattle.ledger_rows.proofs.LastLive.{last_entered}
use Rattle.ledger_rows.proofs.Tallied.{others_entered, read_again, read_among, tallied_few}
use Rattle.ledger_rows.proofs.ledger.Ledger.enter.Goals as goal

pub replace-requires-clause-among : goal.replace-requires-clause-among
replace-requires-clause-among c = read_among c.self.inside.lanes.items c.deref.result.now c.args.inc c.self.inside.tally c.tally_in-before.result c.self.invariant.4 c.deref.ensures.value c.tally_in-before.ensures.value

pub replace-requires-clause-few : goal.replace-requires-clause-few
replace-requires-clause-few c = tallied_few c.self.inside.lanes.items c.self.inside.tally c.self.invariant.0 c.self.invariant.4

pub invariant_of-self : goal.invariant_of-self
invariant_of-self c = (
  omega (arith, c.enter_in.ensures.length, c.self.invariant.0),
  c.enter_in.ensures.shelved,
  flown_entered c.self.inside.lanes.items c.enter_in.new.lanes.items c.self.inside.flights.items c.args.inc c.args.policy c.as_slice.result.now c.enter_in.ensures.rows c.self.invariant.2,
  last_entered c.self.inside.lanes.items c.enter_in.new.lanes.items c.args.inc c.args.policy c.as_slice.result.now c.enter_in.ensures.rows c.self.invariant.3,
  read_again c.self.inside.lanes.items c.enter_in.new.lanes.items c.deref.result.now c.deref-2.result.now c.args.inc c.self.inside.tally c.tally_in-before.result c.tally_in.result c.replace.new.tally c.self.invariant.4
      (others_entered c.self.inside.lanes.items c.enter_in.new.lanes.items c.args.inc c.args.policy c.as_slice.result.now c.enter_in.ensures.length c.enter_in.ensures.rows)
      c.deref.ensures.value c.deref-2.ensures.value c.tally_in-before.ensures.value c.tally_in.ensures.value c.tally_in.ensures.few c.replace.ensures,
)

pub returns-clause-stands : goal.returns-clause-stands
returns-clause-stands c = λ calls stands.
    let before : Stands _ calls = subst (λ (s : State). Stands s calls) (sym c.self.view_is) stands in
    record { told = enter_told c.self.inside.lanes.items c.enter_in.new.lanes.items c.args.inc c.args.policy c.args.pairs.now calls (subst (λ (ps : List Pair). RowsAre c.self.inside.lanes.items c.enter_in.new.lanes.items (rows_entered c.args.inc c.args.policy ps)) c.as_slice.ensures c.enter_in.ensures.rows) before.told; air = before.air }
