use Rattle.sched_top.proofs.ServingLemmas.{sweep_turn, sweep_stopped}
use Rattle.sched_top.proofs.ServingDoubts.{none_leaves, stop_leaves}
use Rattle.sched_top.proofs.service.serve_sweep.Goals as goal

pub returns-in-Ok-clause-turn : goal.returns-in-Ok-clause-turn
returns-in-Ok-clause-turn g c = λ zones.
    sweep_turn _ (g.K.Keeper.stands c.sweep_all.new.keeper) _ _ _ zones _ _ _ _ c.length.result _ (g.met.K.Keeper.holds _) c.in-Ok.ensures.swept (λ since h held. c.length.ensures h (c.book.ensures.stands since h held)) c.answered.ensures

pub returns-in-Err-clause-turn : goal.returns-in-Err-clause-turn
returns-in-Err-clause-turn g c = λ zones.
    sweep_stopped _ _ _ (g.K.Keeper.faults c.args.keeper.now) (g.K.Keeper.faults c.sweep_all.new.keeper) zones _ _ _ _ _ c.length-in-Err.result _ c.in-Err.ensures.cut c.in-Err.ensures.disk (λ since h held. c.length-in-Err.ensures h (c.book-in-Err.ensures.stands since h held)) c.stopped.ensures

pub returns-in-Ok-clause-left : goal.returns-in-Ok-clause-left
returns-in-Ok-clause-left g c = λ own.
    let (since, h, held, free) = c.requires.free in
    none_leaves _ _ _ (g.met.K.Keeper.settled _ since _ (c.in-Ok.ensures.swept since h held free).1)

pub returns-in-Err-clause-left : goal.returns-in-Err-clause-left
returns-in-Err-clause-left g c = λ own. stop_leaves _ _ c.in-Err.fault _ c.stopped.result c.stopped.ensures (c.in-Err.ensures.left own)
