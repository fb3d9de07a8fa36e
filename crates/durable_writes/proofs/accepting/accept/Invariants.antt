use Rattle.std.proofs.Common.{◌≤◌, ◌-◌}
use Rattle.step_keeper.specs.Carrying.{CarriesWhere}
use Rattle.durable_writes.specs.Leading.{IsUnhindered}
use Rattle.durable_writes.proofs.LeadLemmas.{IsUnderway}
use Rattle.durable_writes.proofs.accepting.accept.Given as goal

abbrev pub invariant-entering : goal.invariant-entering
invariant-entering g l = record {
  went : CarriesWhere (IsUnhindered l.write) (g.K.Keeper.stands l.fn.keeper) (g.K.Keeper.stands l.keeper)
      (IsUnderway l.at.0 l.write (g.P.Picker.told l.fn.picker) (g.P.Picker.told l.picker) l._done);
  latest : g.K.Keeper.latest l.keeper ≤ l.at.0;
  faults : g.K.Keeper.faults l.fn.keeper ≤ g.K.Keeper.faults l.keeper;
}

abbrev pub decreases-entering : goal.decreases-entering
decreases-entering g l = 340282366920938463463374607431768211455 - l._done
