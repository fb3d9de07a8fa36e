use Rattle.std.proofs.Common.{refl, arith}
use Rattle.sched_calls.specs.Serves.{all_shards}
use Rattle.timer_work.proofs.ActLemmas.{disk_as}
use Rattle.timer_work.proofs.WholeLemmas.{fit_first, swept_whole, cut_off, cut_first}
use Rattle.timer_work.proofs.sweep.sweep_all.Goals as goal

pub sweep_shards-requires-clause-lives : goal.sweep_shards-requires-clause-lives
sweep_shards-requires-clause-lives g c =
    let (since, h, held, free) = c.requires.free in
    let (found, st, finds) = c.in_default.ensures.settled since h held in
    let early = c.mend.ensures.early since found (g.met.K.Keeper.holds _ since found st) in
    let later = c.requires.later in
    (since, found, st, fit_first c.args.at.0 all_shards found (free found finds) (omega (arith, early, later)))

pub returns-in-Err-clause-cut : goal.returns-in-Err-clause-cut
returns-in-Err-clause-cut g c = λ since h held free.
    cut_first (g.K.Keeper.held c.mend.new.keeper since) _ _ c.args.at.0 h _ _ free (c.in-Err.ensures.torn since h held)

pub returns-in-Err-sweep_shards-clause-cut : goal.returns-in-Err-sweep_shards-clause-cut
returns-in-Err-sweep_shards-clause-cut g c = λ since h held free.
    let (found, st, finds) = c.in_default.ensures.settled since h held in
    let early = c.mend.ensures.early since found (g.met.K.Keeper.holds _ since found st) in
    let later = c.requires.later in
    cut_off (g.K.Keeper.held c.sweep_shards.new.keeper since) _ _ _ c.args.at.0 h found _ _ finds
    (c.in-Err-sweep_shards.ensures.went since found st (fit_first c.args.at.0 all_shards found (free found finds) (omega (arith, early, later))))

pub returns-clause-swept : goal.returns-clause-swept
returns-clause-swept g c = λ since h held free.
    let (found, st, finds) = c.in_default.ensures.settled since h held in
    let early = c.mend.ensures.early since found (g.met.K.Keeper.holds _ since found st) in
    let later = c.requires.later in
    swept_whole (g.K.Keeper.stands c.sweep_shards.new.keeper since) _ c.args.at.0 h found _ _ finds
    (c.in_default-sweep_shards.ensures.went since found st (fit_first c.args.at.0 all_shards found (free found finds) (omega (arith, early, later))))

pub returns-in-Err-sweep_shards-clause-disk : goal.returns-in-Err-sweep_shards-clause-disk
returns-in-Err-sweep_shards-clause-disk g c =
    let a = c.mend.ensures.faults in
    disk_as _ _ _ _ _ a refl c.in-Err-sweep_shards.ensures.disk
