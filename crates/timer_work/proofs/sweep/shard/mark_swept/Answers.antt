use Rattle.std.proofs.Common.{arith}
use Rattle.durable_book.specs.Faults.{swept_denial}
use Rattle.durable_book.specs.Steps.{swept_of}
use Rattle.sweep_laws.proofs.Follow.{may_sweep}
use Rattle.book_parts.specs.Stands.{calendar}
use Rattle.timer_work.specs.Places.{AtWork}
use Rattle.timer_work.proofs.ActLemmas.{puts_here, stays_here, growing, stop_cause, disk_as}
use Rattle.timer_work.proofs.StepLemmas.{swept_went}
use Rattle.timer_work.proofs.WentLemmas.{stopped_here}
use Rattle.timer_work.proofs.sweep.shard.mark_swept.Goals as goal

pub swept_stop-requires : goal.swept_stop-requires
swept_stop-requires g c =
    let (shards, (since, h, st, (fit, asks))) = c.requires.wanted in
    let (held, cause) = stays_here _ _ _ _ _ (g.met.K.Keeper.holds _) (g.met.K.Keeper.settled _) c.in-Err.ensures.refused since h st in
    growing (g.K.Keeper.full c.swept.new.keeper) (swept_of c.args.at.0 c.args.shard) (swept_denial c.in-Err.fault) h
    (may_sweep calendar h c.args.shard c.args.at.0 fit.early asks.asked) cause

pub returns-in-Ok-clause-swept : goal.returns-in-Ok-clause-swept
returns-in-Ok-clause-swept g c = λ shards o since h st (fit, asks).
    swept_went _ c.args.at.0 c.args.shard shards h o fit asks.asked
    (puts_here _ _ _ _ _ _ (g.met.K.Keeper.holds _) (g.met.K.Keeper.settled _) c.in-Ok.ensures.swept since h st).0

pub returns-in-Err-clause-swept : goal.returns-in-Err-clause-swept
returns-in-Err-clause-swept g c = λ shards o since h st fit.
    let full = g.K.Keeper.full c.swept.new.keeper in
    let (held, cause) = stays_here _ _ _ _ _ (g.met.K.Keeper.holds _) (g.met.K.Keeper.settled _) c.in-Err.ensures.refused since h st in
    stopped_here _ full c.swept_stop.result c.args.at.0 (AtWork c.args.shard shards) h o held fit tt
    (stop_cause full (swept_of c.args.at.0 c.args.shard) (swept_denial c.in-Err.fault) c.swept_stop.result h c.swept_stop.ensures cause)

pub returns-in-Err-clause-disk : goal.returns-in-Err-clause-disk
returns-in-Err-clause-disk g c = disk_as _ _ _ _ _ (omega arith) c.swept_stop.ensures c.in-Err.ensures.disk
