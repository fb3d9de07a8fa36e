use Rattle.std.proofs.Common.{refl}
use Rattle.durable_book.specs.Faults.{swept_denial}
use Rattle.durable_book.specs.Steps.{swept_of}
use Rattle.durable_book.proofs.ActLemmas.{refuses_as, told_cause}
use Rattle.durable_book.proofs.RuleLemmas.{swept_denied}
use Rattle.durable_book.proofs.sweeping.swept.Goals as goal

pub returns-in-Err-clause-refused : goal.returns-in-Err-clause-refused
returns-in-Err-clause-refused g c =
    refuses_as _ _ _ _ _ c.in-Err.ensures.refused
    (λ h denied. told_cause (g.K.Keeper.full c.settle_and_add.new.keeper) _ (swept_of c.args.at.0 c.args.shard) c.in-Err.denial (swept_denial c.swept_fault.result) h refl denied.0
    (λ cause. c.swept_fault.ensures.told (swept_denied (g.K.Keeper.full c.settle_and_add.new.keeper) h c.args.at.0 c.args.shard c.in-Err.denial denied.1 cause)))
