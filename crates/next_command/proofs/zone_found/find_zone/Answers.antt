use Rattle.std.proofs.Common.{sym, subst, ◌∙◌}
use Rattle.zone_occ.specs.ZoneText.{ZoneText}
use Rattle.next_command.specs.declared.zone_found.ZoneFound.TheVariants as founds
use Rattle.next_command.specs.Finding.{IsFound}
use Rattle.next_command.proofs.ZoneLemmas.{built_in}
use Rattle.next_command.proofs.zone_found.find_zone.Goals as goal

pub returns-then-eq-clause-found : goal.returns-then-eq-clause-found
returns-then-eq-clause-found g c =
    subst (λ (zone : ZoneText). IsFound (g.Z.ZoneFiles.told c.args.zones.now) c.args.name.now (founds.Zone zone)) (sym c.utc.ensures)
    (built_in (g.Z.ZoneFiles.told c.args.zones.now) c.args.name.now (rw c.as_bytes.ensures.value at (rw c.as_slice.ensures at (sym c.eq.ensures ∙ c.if-eq.true))))
