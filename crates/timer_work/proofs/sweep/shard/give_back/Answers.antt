use Rattle.std.proofs.Common.{ap, arith}
use Rattle.sched_plain.specs.declared.holder.Holder.{Holder}
use Rattle.durable_book.specs.Faults.{hold_denial}
use Rattle.durable_book.specs.Steps.{release_by}
use Rattle.sweep_laws.proofs.Follow.{may_release}
use Rattle.book_parts.specs.Stands.{calendar}
use Rattle.timer_work.specs.Places.{Unreleased}
use Rattle.timer_work.proofs.ActLemmas.{puts_here, stays_here, growing, stop_cause, disk_as, own_release}
use Rattle.timer_work.proofs.StepLemmas.{released_went}
use Rattle.timer_work.proofs.WentLemmas.{stopped_here}
use Rattle.timer_work.proofs.sweep.shard.give_back.Goals as goal

pub hold_stop-requires : goal.hold_stop-requires
hold_stop-requires g c =
    let (shards, (since, h, st, fit)) = c.requires.lives in
    let (held, cause) = stays_here _ _ _ _ _ (g.met.K.Keeper.holds _) (g.met.K.Keeper.settled _) c.in-Err.ensures.refused since h st in
    let epoch = ap (λ (x : Holder). x.epoch) (c.holder-epoch.ensures h (c.book.ensures.stands since h (g.met.K.Keeper.holds _ since h st))) in
    growing (g.K.Keeper.full c.release.new.keeper) (release_by c.args.at.0 c.args.shard 0 c.holder-epoch.result.epoch) (hold_denial c.in-Err.fault) h
    (own_release h c.args.at.0 c.args.shard c.holder-epoch.result.epoch epoch
    (may_release calendar h c.args.shard c.args.at.0 fit.early fit.taken.0 fit.taken.1)) cause

pub returns-in-Ok-clause-went : goal.returns-in-Ok-clause-went
returns-in-Ok-clause-went g c = λ shards o since h st fit.
    let epoch = ap (λ (x : Holder). x.epoch) (c.holder-epoch.ensures h (c.book.ensures.stands since h (g.met.K.Keeper.holds _ since h st))) in
    released_went _ c.args.at.0 c.args.shard c.holder-epoch.result.epoch shards h o epoch fit
    (puts_here _ _ _ _ _ _ (g.met.K.Keeper.holds _) (g.met.K.Keeper.settled _) c.in-Ok.ensures.released since h st).0

pub returns-in-Err-clause-went : goal.returns-in-Err-clause-went
returns-in-Err-clause-went g c = λ shards o since h st fit.
    let full = g.K.Keeper.full c.release.new.keeper in
    let (held, cause) = stays_here _ _ _ _ _ (g.met.K.Keeper.holds _) (g.met.K.Keeper.settled _) c.in-Err.ensures.refused since h st in
    stopped_here _ full c.hold_stop.result c.args.at.0 (Unreleased c.args.shard shards) h o held fit tt
    (stop_cause full (release_by c.args.at.0 c.args.shard 0 c.holder-epoch.result.epoch) (hold_denial c.in-Err.fault) c.hold_stop.result h c.hold_stop.ensures cause)

pub returns-in-Err-clause-disk : goal.returns-in-Err-clause-disk
returns-in-Err-clause-disk g c = disk_as _ _ _ _ _ (omega arith) c.hold_stop.ensures c.in-Err.ensures.disk
