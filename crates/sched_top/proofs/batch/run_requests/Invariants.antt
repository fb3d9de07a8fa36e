use Rattle.std.proofs.Common.{◌≡◌, ◌+◌, ◌<◌, ◌≤◌, ◌^◌}
use Rattle.sched_plain.specs.History.{beginning}
use Rattle.plain_words.specs.Moments.{last_moment}
use Rattle.sched_top.specs.Batch.{tells}
use Rattle.sched_top.specs.Running.{Underway}
use Rattle.sched_top.proofs.batch.run_requests.Given as goal

-- so many requests were read and answered over the Boot, each took a byte, and no count of faults fell
abbrev pub invariant-requests : goal.invariant-requests
invariant-requests g l = record {
  underway : Underway (g.K.Keeper.held l.keeper) (g.Z.ZoneFiles.told l.fn.zones) l.number beginning l.now.0
      (tells (g.S.Source.left l.fn.source) (g.T.Sink.got l.fn.sink) (g.P.Picker.told l.fn.picker) (g.L.Link.told l.fn.link) (g.Z.ZoneFiles.faults l.fn.zones))
      (tells (g.S.Source.left l.source) (g.T.Sink.got l.sink) (g.P.Picker.told l.picker) (g.L.Link.told l.link) (g.Z.ZoneFiles.faults l.zones));
  zones : g.Z.ZoneFiles.told l.zones ≡ g.Z.ZoneFiles.told l.fn.zones;
  latest : g.K.Keeper.latest l.keeper ≤ l.now.0;
  late : l.now.0 ≤ last_moment;
  supply : l.number + g.S.Source.supply l.source ≤ g.S.Source.supply l.fn.source;
  fresh : l.number ≡ 0 → g.S.Source.supply l.source ≡ g.S.Source.supply l.fn.source;
  small : 0 < l.number → g.S.Source.supply l.fn.source < 2 ^ 64;
  read : g.S.Source.faults l.fn.source ≤ g.S.Source.faults l.source;
  written : g.T.Sink.faults l.fn.sink ≤ g.T.Sink.faults l.sink;
}

abbrev pub decreases-requests : goal.decreases-requests
decreases-requests g l = g.S.Source.supply l.source
