use Rattle.std.proofs.Common.{refl}
use Rattle.durable_book.specs.Faults.{hold_denial}
use Rattle.durable_book.specs.Steps.{release_by}
use Rattle.durable_book.proofs.ActLemmas.{refuses_as, told_cause}
use Rattle.durable_book.proofs.RuleLemmas.{release_denied}
use Rattle.durable_book.proofs.releasing.release.Goals as goal

pub returns-in-Err-clause-refused : goal.returns-in-Err-clause-refused
returns-in-Err-clause-refused g c =
    refuses_as _ _ _ _ _ c.in-Err.ensures.refused
    (λ h denied. told_cause (g.K.Keeper.full c.settle_and_add.new.keeper) _ (release_by c.args.at.0 c.args.shard c.args.worker c.args.epoch) c.in-Err.denial (hold_denial c.hold_fault.result) h refl denied.0
    (λ cause. c.hold_fault.ensures.told (release_denied (g.K.Keeper.full c.settle_and_add.new.keeper) h c.args.at.0 c.args.shard c.args.worker c.args.epoch c.in-Err.denial denied.1 cause)))
