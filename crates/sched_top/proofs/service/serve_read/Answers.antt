use Rattle.sched_top.proofs.ServingLemmas.{read_turn, read_torn}
use Rattle.sched_top.proofs.ServingDoubts.{none_leaves, disk_leaves}
use Rattle.sched_top.proofs.service.serve_read.Goals as goal

pub returns-in-Ok-clause-turn : goal.returns-in-Ok-clause-turn
returns-in-Ok-clause-turn g c = λ zones told.
    read_turn _ (g.K.Keeper.stands c.mend.new.keeper) _ _ _ zones _ _ _ told _ (g.met.K.Keeper.holds _) c.in-Ok.ensures.settled (λ since h held. c.show.ensures.shown h (c.book.ensures.stands since h held))

pub returns-in-Err-clause-turn : goal.returns-in-Err-clause-turn
returns-in-Err-clause-turn g c = λ zones told.
    read_torn _ _ _ _ zones _ _ _ told _ c.in-Err.ensures.torn c.in-Err.ensures.cause c.disk_failed.ensures

pub returns-in-Ok-clause-left : goal.returns-in-Ok-clause-left
returns-in-Ok-clause-left g c = λ own. none_leaves _ _ _ c.in-Ok.ensures.doubt

pub returns-in-Err-clause-left : goal.returns-in-Err-clause-left
returns-in-Err-clause-left g c = λ own. disk_leaves _ _ _ c.disk_failed.result c.disk_failed.ensures (c.in-Err.ensures.left own)
