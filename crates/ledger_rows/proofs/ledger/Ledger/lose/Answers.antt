use Rattle.std.proofs.Common.{◌&&◌, List, arith, sym, ap, ◌∙◌, subst}
use Rattle.sched_plain.specs.Entries.{is_lost_in}
use Rattle.ledger_rows.specs.declared.row.Flight.{Flight}
use Rattle.ledger_rows.specs.Air.{is_flown, outside}
use Rattle.ledger_rows.specs.State.{AreFlown, Loses, State, Stands}
use Rattle.ledger_rows.proofs.Standing.{lose_told}
use Rattle.ledger_rows.proofs.FlightLemmas.{flown_lost}
use Rattle.ledger_rows.proofs.LastLive.{last_lost}
use Rattle.ledger_rows.proofs.Losses.{lost_all}
use Rattle.ledger_rows.proofs.Tallied.{kept_lost}
use Rattle.ledger_rows.proofs.ledger.Ledger.lose.Goals as goal

pub invariant_of-self : goal.invariant_of-self
invariant_of-self c =
    let old = c.self.inside.lanes.items in
    let new = c.lose_in.new.lanes.items in
    let flights = c.self.inside.flights.items in
    let these : Loses old new (λ i k. is_lost_in c.args.shard i && is_flown flights i k) c.args.at.0 =
    subst (λ (l : List Flight). Loses old new (λ i k. is_lost_in c.args.shard i && is_flown l i k) c.args.at.0) c.deref.ensures.value c.lose_in.ensures.loses in
    let all = lost_all old new flights c.args.shard c.args.at.0 c.self.invariant.2 c.self.invariant.3 these in (
      omega (arith, c.lose_in.ensures.length, c.self.invariant.0),
      c.lose_in.ensures.shelved,
      subst (AreFlown new) (sym c.drop_lost.ensures) (flown_lost old new flights c.args.shard c.args.at.0 all c.self.invariant.2),
      last_lost old new c.args.shard c.args.at.0 all c.self.invariant.3,
      kept_lost old new c.self.inside.tally (λ i k. is_lost_in c.args.shard i && is_flown flights i k) c.args.at.0 c.lose_in.ensures.length these c.self.invariant.4,
    )

pub returns-clause-stands : goal.returns-clause-stands
returns-clause-stands c = λ calls stands.
    let before : Stands _ calls = subst (λ (s : State). Stands s calls) (sym c.self.view_is) stands in
    let old = c.self.inside.lanes.items in
    let new = c.lose_in.new.lanes.items in
    let flights = c.self.inside.flights.items in
    let these : Loses old new (λ i k. is_lost_in c.args.shard i && is_flown flights i k) c.args.at.0 =
    subst (λ (l : List Flight). Loses old new (λ i k. is_lost_in c.args.shard i && is_flown l i k) c.args.at.0) c.deref.ensures.value c.lose_in.ensures.loses in
    let all = lost_all old new flights c.args.shard c.args.at.0 c.self.invariant.2 c.self.invariant.3 these in
    record { told = lose_told old new c.args.shard c.args.at.0 calls all before.told; air = c.drop_lost.ensures ∙ ap (outside c.args.shard) before.air }
