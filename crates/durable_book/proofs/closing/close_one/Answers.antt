use Rattle.std.proofs.Common.{arith}
use Rattle.durable_book.specs.Faults.{close_denial}
use Rattle.durable_book.specs.Steps.{close_with}
use Rattle.durable_book.proofs.ActLemmas.{refuses, told_cause}
use Rattle.durable_book.proofs.ClosingLemmas.{close_is, close_may, open_denied}
use Rattle.durable_book.proofs.EntryLemmas.{entry_found}
use Rattle.durable_book.proofs.closing.close_one.Goals as goal

pub standing-standing-requires-clause-entered : goal.standing-standing-requires-clause-entered
standing-standing-requires-clause-entered g c =
    let (since, h, st, there) = entry_found _ _ _ c.args.inc c.args.instant c.requires.entered c.in_default.ensures.settled in
    let held = g.met.K.Keeper.holds _ since h st in
    let early = c.mend.ensures.early since h held in
    let later = c.requires.later in
    (h, c.book.ensures.stands since h held, there, omega (arith, early, later))

pub returns-in_default-standing : goal.returns-in_default-standing
returns-in_default-standing g c =
    let later = c.requires.later in
    let latest = c.mend.ensures.latest in
    record {
      closed = tt;
      refused = refuses _ _ _ _ _ c.in_default.ensures.settled (g.met.K.Keeper.holds _)
          (λ since h st.
          let held = g.met.K.Keeper.holds _ since h st in
          let early = c.mend.ensures.early since h held in
          open_denied h c.args.at.0 c.args.inc c.args.instant c.standing-standing.result (omega (arith, early, later)) c.in_default-standing.not-Exhausted
          (c.standing-standing.ensures h (c.book.ensures.stands since h held)));
      left = λ own. c.in_default.ensures.doubt;
      disk = tt;
      latest = omega (arith, latest, later);
      faults = c.mend.ensures.faults;
    }

pub add_lawful-requires-clause-lawful : goal.add_lawful-requires-clause-lawful
add_lawful-requires-clause-lawful g c =
    let (since, h, st, there) = entry_found _ _ _ c.args.inc c.args.instant c.requires.entered c.in_default.ensures.settled in
    let held = g.met.K.Keeper.holds _ since h st in
    let early = c.mend.ensures.early since h held in
    let later = c.requires.later in
    (since, h, st, close_may h c.args.at.0 c.args.inc c.args.instant c.in-Exhausted.reason (omega (arith, early, later)) (c.in-Exhausted.ensures h (c.book.ensures.stands since h held)))

pub returns-in-Err-add_lawful-clause-refused : goal.returns-in-Err-add_lawful-clause-refused
returns-in-Err-add_lawful-clause-refused g c =
    refuses _ _ _ _ _ c.in_default.ensures.settled c.in-Err-add_lawful.ensures.stays
    (λ since h st.
    let held = g.met.K.Keeper.holds _ since h st in
    let is = close_is h c.args.at.0 c.args.inc c.args.instant c.in-Exhausted.reason (c.in-Exhausted.ensures h (c.book.ensures.stands since h held)) in
    told_cause (g.K.Keeper.full c.add_lawful.new.keeper) _ (close_with h c.args.at.0 c.args.inc c.args.instant) _ (close_denial c.close_fault.result) h is
    (c.in-Err-add_lawful.ensures.cause since h st) (λ cause. c.close_fault.ensures))
