use Rattle.cron_search.specs.CivilTime.{IsCivilSecond}
use Rattle.cron_search_tests.proofs.day_rules.days_found.Given as goal

abbrev pub invariant-loop : goal.invariant-loop
invariant-loop g l = IsCivilSecond l.from
