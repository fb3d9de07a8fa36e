use Rattle.std.proofs.Common.{◌≡◌, ℕ, ◌∙◌, ap, arith}
use Rattle.plain_words.specs.Ids.{shard_of}
use Rattle.sched_plain.specs.declared.holder.Holder.{Holder}
use Rattle.sched_plain.specs.Leases.{holder}
use Rattle.durable_book.specs.Faults.{begin_denial}
use Rattle.durable_book.specs.Steps.{begin_with}
use Rattle.durable_book.proofs.EntryLemmas.{begin_has_entry}
use Rattle.sweep_laws.proofs.Follow.{may_begin}
use Rattle.book_parts.specs.Stands.{calendar}
use Rattle.timer_work.proofs.ActLemmas.{puts_here, stays_here, growing, stop_cause, disk_as}
use Rattle.timer_work.proofs.AttemptLemmas.{attempt_fits, begun_own, own_begin}
use Rattle.timer_work.proofs.sweep.attempt.begin_next.Goals as goal

pub begin-requires-clause-inc : goal.begin-requires-clause-inc
begin-requires-clause-inc g c =
    let (shard, (shards, (since, h, st, (fit, asks)))) = c.requires.wanted in
    let valid = (attempt_fits c.args.at.0 shard c.args.inc c.args.instant h asks).0 in
    valid.1.0

pub begin-requires-clause-instant : goal.begin-requires-clause-instant
begin-requires-clause-instant g c =
    let (shard, (shards, (since, h, st, (fit, asks)))) = c.requires.wanted in
    let valid = (attempt_fits c.args.at.0 shard c.args.inc c.args.instant h asks).0 in
    valid.2

pub begin-requires-clause-entered : goal.begin-requires-clause-entered
begin-requires-clause-entered g c =
    let (shard, (shards, (since, h, st, (fit, asks)))) = c.requires.wanted in
    (since, h, g.met.K.Keeper.holds _ since h st, begin_has_entry h shard c.args.at.0 c.args.inc c.args.instant asks.asked)

pub begin_stop-requires : goal.begin_stop-requires
begin_stop-requires g c =
    let (shard, (shards, (since, h, st, (fit, asks)))) = c.requires.wanted in
    let epoch = c.holder-epoch.result.epoch in
    let own : epoch ≡ (holder h (shard_of c.args.inc)).epoch =
    ap (λ (x : Holder). x.epoch) (c.holder-epoch.ensures h (c.book.ensures.stands since h (g.met.K.Keeper.holds _ since h st))) ∙ ap (λ (s : ℕ). (holder h s).epoch) c.shard_of.ensures in
    let (held, cause) = stays_here _ _ _ _ _ (g.met.K.Keeper.holds _) (g.met.K.Keeper.settled _) c.in-Err.ensures.refused since h st in
    growing (g.K.Keeper.full c.begin.new.keeper) (begin_with h c.args.at.0 c.args.inc c.args.instant epoch) (begin_denial c.in-Err.fault) h
    (own_begin h c.args.at.0 c.args.inc c.args.instant epoch own (may_begin calendar h shard c.args.at.0 c.args.inc c.args.instant fit.early asks.asked)) cause

pub returns-in-Ok-clause-begun : goal.returns-in-Ok-clause-begun
returns-in-Ok-clause-begun g c = λ since h st.
    let epoch = c.holder-epoch.result.epoch in
    let own : epoch ≡ (holder h (shard_of c.args.inc)).epoch =
    ap (λ (x : Holder). x.epoch) (c.holder-epoch.ensures h (c.book.ensures.stands since h (g.met.K.Keeper.holds _ since h st))) ∙ ap (λ (s : ℕ). (holder h s).epoch) c.shard_of.ensures in
    let (stands, is) = puts_here _ _ _ _ _ _ (g.met.K.Keeper.holds _) (g.met.K.Keeper.settled _) c.in-Ok.ensures.begun since h st in
    begun_own (g.K.Keeper.stands c.begin.new.keeper since) h c.args.at.0 c.args.inc c.args.instant epoch c.in-Ok.ticket own stands is

pub returns-in-Err-clause-stays : goal.returns-in-Err-clause-stays
returns-in-Err-clause-stays g c = λ since h st.
    (stays_here _ _ _ _ _ (g.met.K.Keeper.holds _) (g.met.K.Keeper.settled _) c.in-Err.ensures.refused since h st).0

pub returns-in-Err-clause-cause : goal.returns-in-Err-clause-cause
returns-in-Err-clause-cause g c = λ since h st.
    let full = g.K.Keeper.full c.begin.new.keeper in
    let (held, cause) = stays_here _ _ _ _ _ (g.met.K.Keeper.holds _) (g.met.K.Keeper.settled _) c.in-Err.ensures.refused since h st in
    stop_cause full (begin_with h c.args.at.0 c.args.inc c.args.instant c.holder-epoch.result.epoch) (begin_denial c.in-Err.fault) c.begin_stop.result h c.begin_stop.ensures cause

pub returns-in-Err-clause-disk : goal.returns-in-Err-clause-disk
returns-in-Err-clause-disk g c = disk_as _ _ _ _ _ (omega arith) c.begin_stop.ensures c.in-Err.ensures.disk
