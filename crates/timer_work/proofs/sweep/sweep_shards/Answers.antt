use Rattle.std.proofs.Common.{◌∷◌, ◌-◌, ◌+◌, refl, arith}
use Rattle.plain_words.specs.Lists.{numbers}
use Rattle.sched_calls.specs.Serves.{all_shards}
use Rattle.plain_words.specs.declared.limits.TheConstants.{SHARDS}
use Rattle.timer_work.specs.Places.{Before}
use Rattle.timer_work.proofs.ActLemmas.{disk_as}
use Rattle.timer_work.proofs.WentLemmas.{went_nowhere, went_on, stopped_on, went_before}
use Rattle.timer_work.proofs.WholeLemmas.{next_left, none_left}
use Rattle.timer_work.proofs.sweep.sweep_shards.Goals as goal

pub sweeping-init : goal.sweeping-init
sweeping-init g c = record {
  went = λ since h st fit. went_nowhere _ c.args.at.0 (Before all_shards) h _ st fit;
  latest = c.requires.later;
  faults = omega arith;
  losses = omega arith;
}

pub sweep_shard-requires-clause-lives : goal.sweep_shard-requires-clause-lives
sweep_shard-requires-clause-lives g c =
    let n = c.sweeping.shard in
    let (since, h, st, fit) = c.requires.lives in
    let w = went_before _ c.args.at.0 (Before all_shards) h _ _ _ _ (next_left n c.sweeping-test.true) (c.sweeping.invariant.went since h st fit) in
    (numbers (n + 1) (SHARDS - (n + 1)), (since, w.after, w.stands, w.fit))

pub returns-in-Err : goal.returns-in-Err
returns-in-Err g c = record {
  went = λ since h st fit.
      let n = c.sweeping.shard in
      let w = went_before _ c.args.at.0 (Before all_shards) h _ _ _ _ (next_left n c.sweeping-test.true) (c.sweeping.invariant.went since h st fit) in
      stopped_on _ _ _ _ c.args.at.0 (Before all_shards) h _ (Before (n ∷ numbers (n + 1) (SHARDS - (n + 1)))) _ _ w
      (c.in-Err.ensures.went (numbers (n + 1) (SHARDS - (n + 1))) since w.after w.stands w.fit);
  left = c.in-Err.ensures.left;
  disk = disk_as _ _ _ _ _ c.sweeping.invariant.faults refl c.in-Err.ensures.disk;
  latest = c.sweep_shard.ensures.latest;
  faults = omega (arith, c.sweeping.invariant.faults, c.sweep_shard.ensures.faults);
  losses = omega (arith, c.sweeping.invariant.losses, c.sweep_shard.ensures.losses);
}

pub sweeping-preserved : goal.sweeping-preserved
sweeping-preserved g c = record {
  went = λ since h st fit.
      let n = c.sweeping.shard in
      let w = went_before _ c.args.at.0 (Before all_shards) h _ _ _ _ (next_left n c.sweeping-test.true) (c.sweeping.invariant.went since h st fit) in
      went_on _ _ c.args.at.0 (Before all_shards) h _ (Before (n ∷ numbers (n + 1) (SHARDS - (n + 1)))) _ (Before (numbers (n + 1) (SHARDS - (n + 1)))) _ w
      (c.in_default.ensures.went (numbers (n + 1) (SHARDS - (n + 1))) since w.after w.stands w.fit);
  latest = c.sweep_shard.ensures.latest;
  faults = omega (arith, c.sweeping.invariant.faults, c.sweep_shard.ensures.faults);
  losses = omega (arith, c.sweeping.invariant.losses, c.sweep_shard.ensures.losses);
}

pub returns : goal.returns
returns g c = record {
  went = λ since h st fit.
      went_before _ c.args.at.0 (Before all_shards) h _ _ _ _ (none_left c.sweeping.shard c.sweeping-test.false) (c.sweeping.invariant.went since h st fit);
  left = tt;
  disk = tt;
  latest = c.sweeping.invariant.latest;
  faults = c.sweeping.invariant.faults;
  losses = c.sweeping.invariant.losses;
}
