use Rattle.std.proofs.Common.{sym, subst, arith}
use Rattle.sched_plain.specs.declared.step.Step.{Step}
use Rattle.sched_plain.specs.History.{◌upon◌}
use Rattle.sched_plain.specs.Legal.{MayFollow}
use Rattle.durable_book.specs.Faults.{close_denial}
use Rattle.durable_book.specs.Steps.{close_with}
use Rattle.durable_book.proofs.ClosingLemmas.{close_has_entry, asked_close_is}
use Rattle.sweep_laws.proofs.Follow.{may_close}
use Rattle.sweep_laws.proofs.Valid.{valid_close}
use Rattle.book_parts.specs.Stands.{calendar}
use Rattle.timer_work.specs.Places.{AtWork}
use Rattle.timer_work.proofs.ActLemmas.{puts_here, stays_here, growing, stop_cause, disk_as}
use Rattle.timer_work.proofs.StepLemmas.{closed_lessens}
use Rattle.timer_work.proofs.WentLemmas.{stopped_here}
use Rattle.timer_work.proofs.sweep.entry.close_next.Goals as goal

pub close_one-requires-clause-inc : goal.close_one-requires-clause-inc
close_one-requires-clause-inc g c =
    let (reason, shard, (shards, (since, h, st, (fit, asks)))) = c.requires.wanted in
    let valid = valid_close calendar h shard c.args.at.0 c.args.inc c.args.instant reason asks.good asks.asked in
    valid.1.0

pub close_one-requires-clause-instant : goal.close_one-requires-clause-instant
close_one-requires-clause-instant g c =
    let (reason, shard, (shards, (since, h, st, (fit, asks)))) = c.requires.wanted in
    let valid = valid_close calendar h shard c.args.at.0 c.args.inc c.args.instant reason asks.good asks.asked in
    valid.2

pub close_one-requires-clause-entered : goal.close_one-requires-clause-entered
close_one-requires-clause-entered g c =
    let (reason, shard, (shards, (since, h, st, (fit, asks)))) = c.requires.wanted in
    (since, h, g.met.K.Keeper.holds _ since h st, close_has_entry h shard c.args.at.0 c.args.inc c.args.instant reason asks.asked)

pub close_stop-requires : goal.close_stop-requires
close_stop-requires g c =
    let (reason, shard, (shards, (since, h, st, (fit, asks)))) = c.requires.wanted in
    let (held, cause) = stays_here _ _ _ _ _ (g.met.K.Keeper.holds _) (g.met.K.Keeper.settled _) c.in-Err.ensures.refused since h st in
    let may = may_close calendar h shard c.args.at.0 c.args.inc c.args.instant reason fit.early asks.asked in
    growing (g.K.Keeper.full c.close_one.new.keeper) (close_with h c.args.at.0 c.args.inc c.args.instant) (close_denial c.in-Err.fault) h
    (subst (λ (s : Step). MayFollow calendar h s) (asked_close_is h shard c.args.at.0 c.args.inc c.args.instant reason asks.asked) may) cause

pub returns-in-Ok-clause-done : goal.returns-in-Ok-clause-done
returns-in-Ok-clause-done g c = λ reason o since h shard shards st (fit, asks).
    closed_lessens _ c.args.at.0 shard c.args.inc c.args.instant reason shards h o fit asks.asked
    (subst (λ (s : Step). g.K.Keeper.stands c.close_one.new.keeper since (s upon h)) (sym (asked_close_is h shard c.args.at.0 c.args.inc c.args.instant reason asks.asked))
    (puts_here _ _ _ _ _ _ (g.met.K.Keeper.holds _) (g.met.K.Keeper.settled _) c.in-Ok.ensures.closed since h st).0)

pub returns-in-Err-clause-done : goal.returns-in-Err-clause-done
returns-in-Err-clause-done g c = λ reason o since h shard shards st (fit, asks).
    let full = g.K.Keeper.full c.close_one.new.keeper in
    let (held, cause) = stays_here _ _ _ _ _ (g.met.K.Keeper.holds _) (g.met.K.Keeper.settled _) c.in-Err.ensures.refused since h st in
    stopped_here _ full c.close_stop.result c.args.at.0 (AtWork shard shards) h o held fit tt
    (stop_cause full (close_with h c.args.at.0 c.args.inc c.args.instant) (close_denial c.in-Err.fault) c.close_stop.result h c.close_stop.ensures cause)

pub returns-in-Err-clause-disk : goal.returns-in-Err-clause-disk
returns-in-Err-clause-disk g c = disk_as _ _ _ _ _ (omega arith) c.close_stop.ensures c.in-Err.ensures.disk
