use Rattle.std.proofs.Common.{◌∷◌, arith}
use Rattle.durable_book.specs.Faults.{lease_denial}
use Rattle.durable_book.specs.Steps.{lease_of}
use Rattle.sweep_laws.proofs.Follow.{may_take}
use Rattle.book_parts.specs.Stands.{calendar}
use Rattle.timer_work.specs.Places.{Before}
use Rattle.timer_work.proofs.ActLemmas.{puts_here, stays_here, growing, stop_cause, disk_as}
use Rattle.timer_work.proofs.StepLemmas.{taking_went}
use Rattle.timer_work.proofs.WentLemmas.{stopped_here}
use Rattle.timer_work.proofs.sweep.shard.take_shard.Goals as goal

pub lease_stop-requires : goal.lease_stop-requires
lease_stop-requires g c =
    let (shards, (since, h, st, fit)) = c.requires.lives in
    let (held, cause) = stays_here _ _ _ _ _ (g.met.K.Keeper.holds _) (g.met.K.Keeper.settled _) c.in-Err.ensures.refused since h st in
    growing (g.K.Keeper.full c.lease.new.keeper) (lease_of h c.args.at.0 c.args.shard 0) (lease_denial c.in-Err.fault) h
    (may_take calendar h c.args.shard c.args.at.0 fit.early (fit.free c.args.shard)) cause

pub returns-in-Ok-clause-went : goal.returns-in-Ok-clause-went
returns-in-Ok-clause-went g c = λ shards o since h st fit.
    taking_went _ c.args.at.0 c.args.shard shards h o fit
    (puts_here _ _ _ _ _ _ (g.met.K.Keeper.holds _) (g.met.K.Keeper.settled _) c.in-Ok.ensures.leased since h st).0

pub returns-in-Err-clause-went : goal.returns-in-Err-clause-went
returns-in-Err-clause-went g c = λ shards o since h st fit.
    let full = g.K.Keeper.full c.lease.new.keeper in
    let (held, cause) = stays_here _ _ _ _ _ (g.met.K.Keeper.holds _) (g.met.K.Keeper.settled _) c.in-Err.ensures.refused since h st in
    stopped_here _ full c.lease_stop.result c.args.at.0 (Before (c.args.shard ∷ shards)) h o held fit tt
    (stop_cause full (lease_of h c.args.at.0 c.args.shard 0) (lease_denial c.in-Err.fault) c.lease_stop.result h c.lease_stop.ensures cause)

pub returns-in-Err-clause-disk : goal.returns-in-Err-clause-disk
returns-in-Err-clause-disk g c = disk_as _ _ _ _ _ (omega arith) c.lease_stop.ensures c.in-Err.ensures.disk
