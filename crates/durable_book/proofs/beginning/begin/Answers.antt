use Rattle.std.proofs.Common.{ℕ, ap, subst, arith}
use Rattle.sched_plain.specs.declared.step.Step.TheVariants as steps
use Rattle.durable_book.specs.Faults.{begin_denial}
use Rattle.durable_book.specs.Steps.{begin_with}
use Rattle.durable_book.specs.Acts.{IsCause}
use Rattle.durable_book.proofs.ActLemmas.{adds, refuses, told_cause}
use Rattle.durable_book.proofs.EntryLemmas.{entry_found}
use Rattle.durable_book.proofs.RuleLemmas.{begin_denied}
use Rattle.durable_book.proofs.beginning.begin.Goals as goal

pub begin_fault-requires : goal.begin_fault-requires
begin_fault-requires g c =
    let full = g.K.Keeper.full c.add.new.keeper in
    let (since, h, st, there) = entry_found _ _ _ c.args.inc c.args.instant c.requires.entered c.in_default.ensures.settled in
    let held = g.met.K.Keeper.holds _ since h st in
    let early = c.mend.ensures.early since h held in
    let later = c.requires.later in
    let number = c.next_number-number.ensures.number h (c.book.ensures.stands since h held) in
    let is = ap (λ (n : ℕ). steps.Begin c.args.at c.args.inc c.args.instant n c.args.epoch) number in
    begin_denied full h c.args.at.0 c.args.inc c.args.instant c.args.epoch c.in-Err-add.denial (omega (arith, early, later)) there
    (subst (λ x. IsCause full x c.in-Err-add.denial h) is (c.in-Err-add.ensures.cause since h st))

pub returns-in-Err-add-clause-refused : goal.returns-in-Err-add-clause-refused
returns-in-Err-add-clause-refused g c =
    refuses _ _ _ _ _ c.in_default.ensures.settled c.in-Err-add.ensures.stays
    (λ since h st.
    let full = g.K.Keeper.full c.add.new.keeper in
    let held = g.met.K.Keeper.holds _ since h st in
    let number = c.next_number-number.ensures.number h (c.book.ensures.stands since h held) in
    let is = ap (λ (n : ℕ). steps.Begin c.args.at c.args.inc c.args.instant n c.args.epoch) number in
    told_cause full _ (begin_with h c.args.at.0 c.args.inc c.args.instant c.args.epoch) c.in-Err-add.denial (begin_denial c.begin_fault.result) h is (c.in-Err-add.ensures.cause since h st)
    (λ cause. c.begin_fault.ensures))

pub returns-clause-begun : goal.returns-clause-begun
returns-clause-begun g c =
    adds _ _ _ _ _ _ _ c.in_default.ensures.settled
    (λ since h st.
    let number = c.next_number-number.ensures.number h (c.book.ensures.stands since h (g.met.K.Keeper.holds _ since h st)) in
    ap (λ (n : ℕ). steps.Begin c.args.at c.args.inc c.args.instant n c.args.epoch) number)
    (λ since h st.
    let number = c.next_number-number.ensures.number h (c.book.ensures.stands since h (g.met.K.Keeper.holds _ since h st)) in
    ap (λ (n : ℕ). record { inc = c.args.inc; instant = c.args.instant; number = n; epoch = c.args.epoch }) number)
    c.in_default-add.ensures.kept
