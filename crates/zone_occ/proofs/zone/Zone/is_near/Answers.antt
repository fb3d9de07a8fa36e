use Rattle.zone_occ.proofs.NearLemmas.{near}
use Rattle.zone_occ.proofs.zone.Zone.is_near.Goals as goal

pub returns : goal.returns
returns c = near c.args.self.now
