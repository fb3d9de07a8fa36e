use Rattle.std.proofs.Common.{◌+◌, ◌-◌}
use Rattle.plain_words.specs.Moments.{last_moment}
use Rattle.cron_search.specs.CivilTime.{civil_second}
use Rattle.zone_occ.proofs.EarliestInstant.{IsEarliest}
use Rattle.zone_occ.proofs.next.next_cron.Given as goal

abbrev pub invariant-loop-minute : goal.invariant-loop-minute
invariant-loop-minute l = IsEarliest l.sets l.zone l.from l.cursor l.earliest

abbrev pub decreases-loop-minute : goal.decreases-loop-minute
decreases-loop-minute l = last_moment + 1 - civil_second l.cursor
