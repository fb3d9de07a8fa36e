use Rattle.std.proofs.Common.{◌+◌, ◌-◌}
use Rattle.plain_words.specs.Moments.{last_moment}
use Rattle.cron_search.specs.CivilTime.{IsCivilSecond, civil_second}
use Rattle.zone_occ.proofs.EarliestInstant.{IsSeen}
use Rattle.zone_occ.specs.FirstInstants.{AreFirsts}
use Rattle.zone_occ.proofs.batch.by_scan.Given as goal

abbrev pub invariant-loop-minute : goal.invariant-loop-minute
invariant-loop-minute l = record {
  real : IsCivilSecond l.cursor;
  firsts : AreFirsts (IsSeen l.sets l.zone l.cursor) l.from l.to l.max l.moments.items;
}

abbrev pub decreases-loop-minute : goal.decreases-loop-minute
decreases-loop-minute l = last_moment + 1 - civil_second l.cursor
