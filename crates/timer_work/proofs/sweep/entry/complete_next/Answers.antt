use Rattle.std.proofs.Common.{arith}
use Rattle.durable_book.specs.Faults.{complete_denial}
use Rattle.durable_book.specs.Steps.{complete_of}
use Rattle.sweep_laws.proofs.Follow.{may_complete}
use Rattle.sweep_laws.proofs.Valid.{valid_complete}
use Rattle.book_parts.specs.Stands.{calendar}
use Rattle.timer_work.specs.Places.{AtWork}
use Rattle.timer_work.proofs.ActLemmas.{puts_here, stays_here, growing, stop_cause, disk_as}
use Rattle.timer_work.proofs.StepLemmas.{completed_lessens}
use Rattle.timer_work.proofs.WentLemmas.{stopped_here}
use Rattle.timer_work.proofs.sweep.entry.complete_next.Goals as goal

pub complete-requires-clause-inc : goal.complete-requires-clause-inc
complete-requires-clause-inc g c =
    let (shard, (shards, (since, h, st, (fit, asks)))) = c.requires.wanted in
    let valid = valid_complete calendar h shard c.args.at.0 c.args.inc asks.good asks.asked in
    valid.1.0

pub complete_stop-requires : goal.complete_stop-requires
complete_stop-requires g c =
    let (shard, (shards, (since, h, st, (fit, asks)))) = c.requires.wanted in
    let (held, cause) = stays_here _ _ _ _ _ (g.met.K.Keeper.holds _) (g.met.K.Keeper.settled _) c.in-Err.ensures.refused since h st in
    growing (g.K.Keeper.full c.complete.new.keeper) (complete_of c.args.at.0 c.args.inc) (complete_denial c.in-Err.fault) h
    (may_complete calendar h shard c.args.at.0 c.args.inc fit.early asks.asked) cause

pub returns-in-Ok-clause-done : goal.returns-in-Ok-clause-done
returns-in-Ok-clause-done g c = λ o since h shard shards st (fit, asks).
    completed_lessens _ c.args.at.0 shard c.args.inc shards h o fit asks.asked
    (puts_here _ _ _ _ _ _ (g.met.K.Keeper.holds _) (g.met.K.Keeper.settled _) c.in-Ok.ensures.completed since h st).0

pub returns-in-Err-clause-done : goal.returns-in-Err-clause-done
returns-in-Err-clause-done g c = λ o since h shard shards st (fit, asks).
    let full = g.K.Keeper.full c.complete.new.keeper in
    let (held, cause) = stays_here _ _ _ _ _ (g.met.K.Keeper.holds _) (g.met.K.Keeper.settled _) c.in-Err.ensures.refused since h st in
    stopped_here _ full c.complete_stop.result c.args.at.0 (AtWork shard shards) h o held fit tt
    (stop_cause full (complete_of c.args.at.0 c.args.inc) (complete_denial c.in-Err.fault) c.complete_stop.result h c.complete_stop.ensures cause)

pub returns-in-Err-clause-disk : goal.returns-in-Err-clause-disk
returns-in-Err-clause-disk g c = disk_as _ _ _ _ _ (omega arith) c.complete_stop.ensures c.in-Err.ensures.disk
