use Rattle.std.proofs.Common.{◌≡◌}
use Rattle.cron_search.specs.CivilTime.{IsCivilSecond}
use Rattle.cron_search_tests.proofs.plain_scan.first_match.Given as goal

abbrev pub invariant-loop : goal.invariant-loop
invariant-loop l = IsCivilSecond l.at × (l.at.second ≡ 0)
