use Rattle.std.proofs.Common.{refl}
use Rattle.durable_book.specs.Faults.{complete_denial}
use Rattle.durable_book.specs.Steps.{complete_of}
use Rattle.durable_book.proofs.ActLemmas.{refuses_as, told_cause}
use Rattle.durable_book.proofs.RuleLemmas.{complete_denied}
use Rattle.durable_book.proofs.completing.complete.Goals as goal

pub returns-in-Err-clause-refused : goal.returns-in-Err-clause-refused
returns-in-Err-clause-refused g c =
    refuses_as _ _ _ _ _ c.in-Err.ensures.refused
    (λ h denied. told_cause (g.K.Keeper.full c.settle_and_add.new.keeper) _ (complete_of c.args.at.0 c.args.inc) c.in-Err.denial (complete_denial c.complete_fault.result) h refl denied.0
    (λ cause. c.complete_fault.ensures.told (complete_denied (g.K.Keeper.full c.settle_and_add.new.keeper) h c.args.at.0 c.args.inc c.in-Err.denial denied.1 cause)))
