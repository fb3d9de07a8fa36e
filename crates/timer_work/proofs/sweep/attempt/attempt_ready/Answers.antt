use Rattle.std.proofs.Common.{refl}
use Rattle.plain_words.specs.Ids.{shard_of}
use Rattle.sched_plain.specs.Leases.{holder}
use Rattle.timer_work.specs.Places.{AtWork}
use Rattle.timer_work.proofs.ActLemmas.{disk_as}
use Rattle.timer_work.proofs.AttemptLemmas.{begun_is, begun_stops, ended_lessens, ended_own, sent_as}
use Rattle.timer_work.proofs.WentLemmas.{stopped_here}
use Rattle.timer_work.proofs.sweep.attempt.attempt_ready.Goals as goal

pub end_next-requires-clause-begun : goal.end_next-requires-clause-begun
end_next-requires-clause-begun g c =
    let (shard, (shards, (since, h, st, (fit, asks)))) = c.requires.wanted in
    let (stands, is) = c.in-Ok.ensures.begun since h st in
    (since, _, stands, begun_is c.args.at.0 shard c.args.inc c.args.instant h c.in-Ok.ticket is asks)

pub returns-in-Err-clause-done : goal.returns-in-Err-clause-done
returns-in-Err-clause-done g c = λ words since h shard shards st (fit, asks).
    stopped_here _ _ _ c.args.at.0 (AtWork shard shards) h _ (c.in-Err.ensures.stays since h st) fit tt (c.in-Err.ensures.cause since h st)

pub returns-in-Err-end_next-clause-done : goal.returns-in-Err-end_next-clause-done
returns-in-Err-end_next-clause-done g c = λ words since h shard shards st (fit, asks).
    let (stands, is) = c.in-Ok.ensures.begun since h st in
    let sent = sent_as _ _ _ _ c.send-verdict.result.0 c.send-verdict.result.1 (c.requires.request since h st) c.send-verdict.ensures.sent in
    begun_stops (g.K.Keeper.held c.end_next.new.keeper since) (g.K.Keeper.full c.end_next.new.keeper) c.in-Err-end_next.fault c.args.at.0 shard c.args.inc c.args.instant shards h words _ _
    c.send-verdict.result.0 c.send-verdict.result.1 fit asks.asked sent (c.in-Err-end_next.ensures.stays since _ stands) c.in-Err-end_next.ensures.cause

pub returns-clause-done : goal.returns-clause-done
returns-clause-done g c = λ words since h shard shards st (fit, asks).
    let New = g.K.Keeper.stands c.end_next.new.keeper since in
    let (stands, is) = c.in-Ok.ensures.begun since h st in
    let ended = c.in_default.ensures.ended since _ stands in
    let sent = sent_as _ _ _ _ c.send-verdict.result.0 c.send-verdict.result.1 (c.requires.request since h st) c.send-verdict.ensures.sent in
    ended_lessens New c.args.at.0 shard c.args.inc c.args.instant shards h words _ _ c.send-verdict.result.0 c.send-verdict.result.1 fit asks.asked sent
    (ended_own New h c.args.at.0 c.args.inc c.args.instant (holder h (shard_of c.args.inc)).epoch c.in-Ok.ticket c.send-verdict.result.0 c.send-verdict.result.1 is ended)

pub returns-in-Err-end_next-clause-disk : goal.returns-in-Err-end_next-clause-disk
returns-in-Err-end_next-clause-disk g c =
    let a = c.begin_next.ensures.faults in
    disk_as _ _ _ _ _ a refl c.in-Err-end_next.ensures.disk
