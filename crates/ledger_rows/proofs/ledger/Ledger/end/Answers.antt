use Rattle.std.proofs.Common.{◌≡◌, true, arith, sym, subst}
use Rattle.ledger_rows.proofs.FlightLemmas.{flown_ended}
use Rattle.std.specs.Prelude.{map}
use Rattle.sched_plain.specs.Attempts.{end_attempt, is_live_attempt}
use Rattle.ledger_rows.specs.State.{AreFlown, State, filed_in}
use Rattle.ledger_rows.proofs.LastLive.{last_ended}
use Rattle.ledger_rows.proofs.Tallied.{others_told, read_again, read_among, tallied_few}
use Rattle.sched_plain.specs.Entries.{with_end}
use Rattle.ledger_rows.proofs.ledger.Ledger.end.Goals as goal

pub replace-requires-clause-among : goal.replace-requires-clause-among
replace-requires-clause-among c = read_among c.self.inside.lanes.items c.deref.result.now c.args.inc c.self.inside.tally c.tally_in-before.result c.self.invariant.4 c.deref.ensures.value c.tally_in-before.ensures.value

pub replace-requires-clause-few : goal.replace-requires-clause-few
replace-requires-clause-few c = tallied_few c.self.inside.lanes.items c.self.inside.tally c.self.invariant.0 c.self.invariant.4

pub invariant_of-self : goal.invariant_of-self
invariant_of-self c = (
  omega (arith, c.end_in.ensures.length, c.self.invariant.0),
  c.end_in.ensures.shelved,
  subst (AreFlown c.end_in.new.lanes.items) (sym c.land.ensures) (flown_ended c.self.inside.lanes.items c.end_in.new.lanes.items c.self.inside.flights.items c.args.inc c.args.instant c.args.at.0 c.args.verdict (map (end_attempt c.args.number c.args.verdict c.args.status)) c.end_in.ensures.changes c.self.invariant.2),
  last_ended c.self.inside.lanes.items c.end_in.new.lanes.items c.args.inc c.args.instant c.args.at.0 c.args.number c.args.status c.args.verdict (subst (λ (s : State). is_live_attempt (filed_in s.lanes c.args.inc c.args.instant) c.args.number ≡ true) (sym c.self.view_is) c.requires.live) c.end_in.ensures.changes c.self.invariant.3,
  read_again c.self.inside.lanes.items c.end_in.new.lanes.items c.deref.result.now c.deref-2.result.now c.args.inc c.self.inside.tally c.tally_in-before.result c.tally_in.result c.replace.new.tally c.self.invariant.4
      (others_told c.self.inside.lanes.items c.end_in.new.lanes.items c.args.inc c.args.instant (with_end c.args.verdict c.args.at.0) (map (end_attempt c.args.number c.args.verdict c.args.status)) c.end_in.ensures.length c.end_in.ensures.changes)
      c.deref.ensures.value c.deref-2.ensures.value c.tally_in-before.ensures.value c.tally_in.ensures.value c.tally_in.ensures.few c.replace.ensures,
)
