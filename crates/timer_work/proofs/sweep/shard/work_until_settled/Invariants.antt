use Rattle.std.proofs.Common.{◌≤◌, ℕ, List}
use Rattle.sched_plain.specs.History.{History}
use Rattle.step_keeper.specs.Carrying.{Start, Shows}
use Rattle.timer_work.specs.Going.{outside}
use Rattle.timer_work.specs.Parts.{Asks}
use Rattle.timer_work.specs.Places.{AtWork, Fit}
use Rattle.timer_work.proofs.WentLemmas.{Worked}
use Rattle.timer_work.proofs.sweep.shard.work_until_settled.Given as goal

abbrev pub invariant-working : goal.invariant-working
invariant-working g l = record {
  went : (shards : List ℕ) (since : Start _) (h : History) → g.K.Keeper.stands l.fn.keeper since h → Fit l.at.0 (AtWork l.shard shards) h
      → Worked (g.K.Keeper.stands l.keeper since) l.at.0 l.shard l._done shards h
      (outside (g.P.Picker.told l.fn.picker) (g.L.Link.told l.fn.link)) (outside (g.P.Picker.told l.picker) (g.L.Link.told l.link));
  asks : Shows (g.K.Keeper.stands l.keeper) (Asks l.at.0 l.shard l.next);
  latest : g.K.Keeper.latest l.keeper ≤ l.at.0;
  faults : g.K.Keeper.faults l.fn.keeper ≤ g.K.Keeper.faults l.keeper;
  losses : g.L.Link.losses l.fn.link ≤ g.L.Link.losses l.link;
}
