use Rattle.write_plans.proofs.ServeLemmas.{known_repeats, refused_is_served, lacking_is_served, zoned_is_accepted, entered_is_accepted, ready_is_accepted}
use Rattle.write_plans.proofs.laws.plans_are_served.Goals as goal

pub returns : goal.returns
returns c = record {
  known = known_repeats;
  refused = refused_is_served;
  lacking = lacking_is_served;
  zoned = zoned_is_accepted;
  entered = entered_is_accepted;
  ready = ready_is_accepted;
}
