use Rattle.std.proofs.Common.{[]}
use Rattle.sweep_laws.proofs.Valid.{valid_enter_work}
use Rattle.book_parts.specs.Stands.{calendar}
use Rattle.timer_work.proofs.EnterLemmas.{entered_done, unentered_stops}
use Rattle.timer_work.proofs.sweep.entry.enter_next.Goals as goal

pub enter-requires-clause-inc : goal.enter-requires-clause-inc
enter-requires-clause-inc g c =
    let (shard, (shards, (since, h, st, (fit, asks)))) = c.requires.wanted in
    let valid = valid_enter_work calendar h shard c.args.at.0 c.args.inc [] asks.good asks.asked in
    valid.1.0

pub enter-requires-clause-lives : goal.enter-requires-clause-lives
enter-requires-clause-lives g c =
    let (shard, (shards, (since, h, st, (fit, asks)))) = c.requires.wanted in
    (since, h, g.met.K.Keeper.holds _ since h st)

pub returns-in-Ok-clause-done : goal.returns-in-Ok-clause-done
returns-in-Ok-clause-done g c = λ sent since h shard shards st (fit, asks).
    let (after, stands, enters) = c.in-Ok.ensures.entered since h (g.met.K.Keeper.holds _ since h st) in
    entered_done (g.K.Keeper.stands c.enter.new.keeper since) _ c.args.at.0 shard c.args.inc _ shards h after _ _ sent
    (g.met.K.Keeper.settled _ since h st) fit asks.asked stands enters

pub returns-in-Err-clause-done : goal.returns-in-Err-clause-done
returns-in-Err-clause-done g c = λ sent since h shard shards st (fit, asks).
    let (after, held, leaves) = c.in-Err.ensures.refused since h (g.met.K.Keeper.holds _ since h st) in
    unentered_stops (g.K.Keeper.held c.enter.new.keeper since) (g.K.Keeper.full c.enter.new.keeper) _ c.args.at.0 shard c.args.inc shards h after _ _ sent c.in-Err.fault
    (g.met.K.Keeper.settled _ since h st) fit held leaves
