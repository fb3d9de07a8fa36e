use Rattle.write_plans.proofs.FollowLemmas.{one_plan, ready_follows, ready_where_it_may, catches_up_least}
use Rattle.write_plans.proofs.CauseLemmas.{each_has_its_cause}
use Rattle.write_plans.proofs.laws.plans_say_what_follows.Goals as goal

pub returns : goal.returns
returns c = record { one = one_plan; causes = each_has_its_cause; ready = ready_follows; may = ready_where_it_may; least = catches_up_least }
