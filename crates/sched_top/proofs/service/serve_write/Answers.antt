use Rattle.sched_top.proofs.ServingLemmas.{write_turn}
use Rattle.sched_top.proofs.ServingDoubts.{write_leaves, ok_on}
use Rattle.sched_top.proofs.service.serve_write.Goals as goal

pub returns-clause-turn : goal.returns-clause-turn
returns-clause-turn g c = λ sent.
    write_turn _ (g.K.Keeper.stands c.do_write-done.new.keeper) _ _ _ _ (g.Z.ZoneFiles.faults c.args.zones.now) (g.Z.ZoneFiles.faults c.do_write-done.new.zones) _ _ _ _ _ _ sent c.do_write-done.result c.length.result _
    (g.met.K.Keeper.holds _) c.do_write-done.ensures.done c.do_write-done.ensures.ended c.do_write-done.ensures.risen (λ since h held. c.length.ensures h (c.book.ensures.stands since h held)) c.written.ensures

pub returns-clause-left : goal.returns-clause-left
returns-clause-left g c = λ own.
    let (since, h, held, free) = c.requires.free in
    write_leaves _ _ c.do_write-done.result c.length.result c.written.result c.written.ensures
    (ok_on _ _ c.do_write-done.result (λ reply done. g.met.K.Keeper.settled _ since _ (done since h held).1) c.do_write-done.ensures.done)
    (c.do_write-done.ensures.left own)
