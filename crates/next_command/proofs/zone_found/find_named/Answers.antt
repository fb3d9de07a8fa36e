use Rattle.next_command.proofs.ResultLemmas.{ok_more}
use Rattle.next_command.proofs.ZoneLemmas.{present}
use Rattle.next_command.proofs.zone_found.find_named.Goals as goal

pub returns-in-Ok-Present-clause-found : goal.returns-in-Ok-Present-clause-found
returns-in-Ok-Present-clause-found g c =
    ok_more _ _ c.read_bytes.result
    (λ found is. present (g.Z.ZoneFiles.told c.args.zones.now) c.args.name.now c.in-Ok-Present.bytes found (rw c.in-Ok-Present.field-0-is at c.in-Ok-Present.ensures.answer) (rw c.as_bytes.ensures at is))
    c.read_bytes.ensures.found
