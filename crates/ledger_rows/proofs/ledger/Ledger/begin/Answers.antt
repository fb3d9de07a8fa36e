use Rattle.std.proofs.Common.{◌≡◌, true, arith, ◌++◌, [], ◌∷◌, refl, sym, subst}
use Rattle.ledger_rows.proofs.FlightLemmas.{flown_begun}
use Rattle.plain_words.specs.Lists.{some_pass}
use Rattle.sched_plain.specs.Attempts.{begun_attempt}
use Rattle.sched_plain.specs.Report.{is_due}
use Rattle.sched_plain.specs.Standing.{standing_of}
use Rattle.ledger_rows.specs.State.{AreFlown, State, filed_in}
use Rattle.ledger_rows.proofs.LastLive.{last_begun}
use Rattle.sched_plain.specs.Entries.{with_begin}
use Rattle.ledger_rows.proofs.Tallied.{kept_told}
use Rattle.ledger_rows.proofs.ledger.Ledger.begin.Goals as goal

pub invariant_of-self : goal.invariant_of-self
invariant_of-self c = (
  omega (arith, c.begin_in-number.ensures.length, c.self.invariant.0),
  c.begin_in-number.ensures.shelved,
  subst (AreFlown c.begin_in-number.new.lanes.items) (sym c.put_last.ensures.flights) (flown_begun c.self.inside.lanes.items c.begin_in-number.new.lanes.items c.self.inside.flights.items (record { inc = c.args.inc; instant = c.args.instant; number = c.begin_in-number.result }) c.args.at.0 (λ before. before ++ begun_attempt c.begin_in-number.result c.args.at.0 c.args.epoch ∷ []) c.begin_in-number.ensures.changes c.self.invariant.2),
  last_begun c.self.inside.lanes.items c.begin_in-number.new.lanes.items c.args.inc c.args.instant c.args.at.0 c.begin_in-number.result c.args.epoch (subst (λ (s : State). some_pass (λ f. is_due (standing_of f c.args.at.0)) (filed_in s.lanes c.args.inc c.args.instant) ≡ true) (sym c.self.view_is) c.requires.due) c.begin_in-number.ensures.number c.begin_in-number.ensures.changes c.self.invariant.3,
  kept_told c.self.inside.lanes.items c.begin_in-number.new.lanes.items c.self.inside.tally c.args.inc c.args.instant (with_begin c.args.at.0)
      (λ before. before ++ begun_attempt c.begin_in-number.result c.args.at.0 c.args.epoch ∷ []) (λ entry. refl) c.begin_in-number.ensures.length c.begin_in-number.ensures.changes c.self.invariant.4,
)
