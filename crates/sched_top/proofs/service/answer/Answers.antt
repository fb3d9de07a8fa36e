use Rattle.sched_top.proofs.ServingRequests.{lives_later, stated_turn, unstated_turn}
use Rattle.sched_top.proofs.ServingDoubts.{same_leaves}
use Rattle.sched_top.proofs.service.answer.Goals as goal

pub respond-requires-clause-free : goal.respond-requires-clause-free
respond-requires-clause-free g c = lives_later _ _ c.args.now.now.0 c.in-Ok.stated c.later.result.0 c.later.ensures c.requires.free

pub returns-in-Ok-clause-turn : goal.returns-in-Ok-clause-turn
returns-in-Ok-clause-turn g c = stated_turn _ _ _ _ _ _ c.args.now.now.0 c.args.request.now c.in-Ok.stated c.later.result.0 _ _ _ c.in-Ok.ensures c.later.ensures c.respond.ensures.turn

pub returns-in-Err-clause-turn : goal.returns-in-Err-clause-turn
returns-in-Err-clause-turn g c =
    unstated_turn _ _ _ _ _ c.args.now.now.0 c.args.request.now _ c.in-Err.fault c.length.result _ c.in-Err.ensures (λ since h held. c.length.ensures h (c.book.ensures.stands since h held)) c.unread.ensures

pub returns-in-Err-clause-left : goal.returns-in-Err-clause-left
returns-in-Err-clause-left g c = λ own. same_leaves _ _ own
