use Rattle.std.proofs.Common.{ℕ, ◌+◌, ap, arith}
use Rattle.plain_words.specs.declared.limits.TheConstants.{LEASE_SECONDS}
use Rattle.sched_plain.specs.declared.step.Step.TheVariants as steps
use Rattle.durable_book.specs.Faults.{lease_denial}
use Rattle.durable_book.specs.Steps.{lease_of}
use Rattle.durable_book.proofs.ActLemmas.{refuses, told_cause}
use Rattle.durable_book.proofs.TakingLemmas.{taking_denied}
use Rattle.durable_book.proofs.leasing.lease.Goals as goal

pub returns-in-Err-add-clause-refused : goal.returns-in-Err-add-clause-refused
returns-in-Err-add-clause-refused g c =
    refuses _ _ _ _ _ c.in_default.ensures.settled c.in-Err-add.ensures.stays
    (λ since h st.
    let full = g.K.Keeper.full c.add.new.keeper in
    let held = g.met.K.Keeper.holds _ since h st in
    let early = c.mend.ensures.early since h held in
    let later = c.requires.later in
    let next = c.in-Some.ensures h (c.book.ensures.stands since h held) in
    let is = ap (λ (e : ℕ). steps.Lease c.args.at c.args.shard c.args.worker e (c.args.at.0 + LEASE_SECONDS)) next in
    told_cause full _ (lease_of h c.args.at.0 c.args.shard c.args.worker) c.in-Err-add.denial (lease_denial c.lease_fault.result) h is (c.in-Err-add.ensures.cause since h st)
    (λ cause. c.lease_fault.ensures.told (taking_denied full h c.args.at.0 c.args.shard c.args.worker c.in-Err-add.denial (omega (arith, early, later)) cause)))
