use Rattle.std.proofs.Common.{◌∙◌, ap, refl}
use Rattle.timer_work.specs.Places.{AtWork}
use Rattle.timer_work.specs.Sendings.{request_for}
use Rattle.timer_work.proofs.AttemptLemmas.{attempt_fits, small_number, lessened_told, stopped_told}
use Rattle.timer_work.proofs.WentLemmas.{stopped_here}
use Rattle.timer_work.proofs.sweep.attempt.attempt.Goals as goal

pub next_number-number-requires : goal.next_number-number-requires
next_number-number-requires g c =
    let (shard, (shards, (since, h, st, (fit, asks)))) = c.requires.wanted in
    record { small = (h, c.book.ensures.stands since h (g.met.K.Keeper.holds _ since h st), (small_number c.args.at.0 shard c.args.inc c.args.instant h asks).1) }

pub prepare-requires : goal.prepare-requires
prepare-requires g c =
    let (shard, (shards, (since, h, st, (fit, asks)))) = c.requires.wanted in
    let valid = (attempt_fits c.args.at.0 shard c.args.inc c.args.instant h asks).0 in
    valid.2

pub attempt_ready-requires-clause-request : goal.attempt_ready-requires-clause-request
attempt_ready-requires-clause-request g c = λ since h st.
    let held = g.met.K.Keeper.holds _ since h st in
    c.in-Ok.ensures.request h (c.book-2.ensures.stands since h held)
    ∙ ap (request_for h c.args.inc c.args.instant) (c.next_number-number.ensures h (c.book.ensures.stands since h held))

pub returns-in_default-clause-done : goal.returns-in_default-clause-done
returns-in_default-clause-done g c = λ words since h shard shards st (fit, asks).
    stopped_told _ _ _ c.args.at.0 _ h words _ _ _ refl _ c.in_default.ensures.told
    (stopped_here _ _ _ c.args.at.0 (AtWork shard shards) h _ (g.met.K.Keeper.holds _ since h st) fit tt tt)

pub returns-in-Err-clause-done : goal.returns-in-Err-clause-done
returns-in-Err-clause-done g c = λ words since h shard shards st offered.
    stopped_told _ _ _ c.args.at.0 _ h words _ _ _ c.in-Ok.ensures.told _ refl
    (c.in-Err.ensures.done words since h shard shards st offered)

pub returns-clause-done : goal.returns-clause-done
returns-clause-done g c = λ words since h shard shards st offered.
    lessened_told _ c.args.at.0 shard shards h words _ _ _ c.in-Ok.ensures.told
    (c.in_default-attempt_ready.ensures.done words since h shard shards st offered)
