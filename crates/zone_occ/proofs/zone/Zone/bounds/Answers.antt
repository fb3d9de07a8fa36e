use Rattle.std.proofs.Common.{sym, subst, ap, ◌∙◌}
use Rattle.zone_occ.specs.Offsets.{bounds}
use Rattle.zone_occ.specs.Conversion.{IsNearBy}
use Rattle.zone_occ.proofs.NearLemmas.{near}
use Rattle.zone_occ.proofs.zone.Zone.bounds.Goals as goal

pub returns-clause-near : goal.returns-clause-near
returns-clause-near c =
    subst (λ b. IsNearBy b c.args.self.now) (sym (c.self.inside.bounds_are ∙ ap bounds c.self.view_is)) (near c.args.self.now)
