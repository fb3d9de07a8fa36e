use Rattle.std.proofs.Common.{◌≤◌, ◌-◌}
use Rattle.plain_words.specs.declared.limits.TheConstants.{SHARDS}
use Rattle.plain_words.specs.Lists.{numbers}
use Rattle.sched_calls.specs.Serves.{all_shards}
use Rattle.timer_work.specs.Going.{outside}
use Rattle.timer_work.specs.Parts.{Goes}
use Rattle.timer_work.specs.Places.{Before}
use Rattle.timer_work.proofs.sweep.sweep_shards.Given as goal

abbrev pub invariant-sweeping : goal.invariant-sweeping
invariant-sweeping g l = record {
  went : Goes (g.K.Keeper.stands l.fn.keeper) (g.K.Keeper.stands l.keeper) l.at.0
      (Before all_shards) (outside (g.P.Picker.told l.fn.picker) (g.L.Link.told l.fn.link))
      (Before (numbers l.shard (SHARDS - l.shard))) (outside (g.P.Picker.told l.picker) (g.L.Link.told l.link));
  latest : g.K.Keeper.latest l.keeper ≤ l.at.0;
  faults : g.K.Keeper.faults l.fn.keeper ≤ g.K.Keeper.faults l.keeper;
  losses : g.L.Link.losses l.fn.link ≤ g.L.Link.losses l.link;
}
