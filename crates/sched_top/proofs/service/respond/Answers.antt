use Rattle.sched_top.proofs.ServingRequests.{asked_is, unread_turn}
use Rattle.sched_top.proofs.ServingDoubts.{same_leaves}
use Rattle.sched_top.proofs.service.respond.Goals as goal

pub returns-in-Ok-clause-turn : goal.returns-in-Ok-clause-turn
returns-in-Ok-clause-turn g c = asked_is _ _ _ _ _ _ _ _ _ _ _ _ c.in-Ok.ensures.value c.serve.ensures.turn

pub returns-in-Err-clause-turn : goal.returns-in-Err-clause-turn
returns-in-Err-clause-turn g c =
    unread_turn _ _ _ _ _ _ _ _ c.in-Err.fault c.length.result _ c.in-Err.ensures.value (λ since h held. c.length.ensures h (c.book.ensures.stands since h held)) c.unread.ensures

pub returns-in-Err-clause-left : goal.returns-in-Err-clause-left
returns-in-Err-clause-left g c = λ own. same_leaves _ _ own
