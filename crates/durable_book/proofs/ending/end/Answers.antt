use Rattle.std.proofs.Common.{◌∙◌, ℕ, ap, subst, sym, arith}
use Rattle.sched_plain.specs.Leases.{holder}
use Rattle.durable_book.specs.Causes.{IsUnended}
use Rattle.durable_book.proofs.ActLemmas.{refuses}
use Rattle.durable_book.proofs.RuleLemmas.{end_denied}
use Rattle.durable_book.proofs.ending.end.Goals as goal

pub returns-in-Err-add_end-clause-refused : goal.returns-in-Err-add_end-clause-refused
returns-in-Err-add_end-clause-refused g c =
    refuses _ _ _ _ _ c.in_default.ensures.settled c.in-Err-add_end.ensures.stays
    (λ since h st.
    let held = g.met.K.Keeper.holds _ since h st in
    let early = c.mend.ensures.early since h held in
    let later = c.requires.later in
    let at_holder = ap (λ x. x.epoch) (c.holder-epoch.ensures h (c.book.ensures.stands since h held)) in
    let epoch = at_holder ∙ ap (λ (shard : ℕ). (holder h shard).epoch) c.shard_of.ensures in
    let unended = end_denied (g.K.Keeper.full c.add_end.new.keeper) h c.args.at.0 c.args.ticket c.args.verdict c.args.status c.holder-epoch.result.epoch c.in-Err-add_end.denial (omega (arith, early, later))
    c.in-Err-add_end.ensures.spare epoch (c.in-Err-add_end.ensures.cause since h st) in
    subst (λ fault. IsUnended c.args.at.0 c.args.ticket c.args.verdict c.args.status fault h) (sym c.end_fault.ensures) unended)
