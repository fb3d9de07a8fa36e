use Rattle.step_needs.proofs.TenureLemmas.{boots_find, leases_find, releases_find, swepts_find, zones_find}
use Rattle.step_needs.proofs.tenures.tenures_find_their_parts.Goals as goal

pub returns-clause-boot : goal.returns-clause-boot
returns-clause-boot c = boots_find

pub returns-clause-lease : goal.returns-clause-lease
returns-clause-lease c = leases_find

pub returns-clause-release : goal.returns-clause-release
returns-clause-release c = releases_find

pub returns-clause-swept : goal.returns-clause-swept
returns-clause-swept c = swepts_find

pub returns-clause-zone : goal.returns-clause-zone
returns-clause-zone c = zones_find
