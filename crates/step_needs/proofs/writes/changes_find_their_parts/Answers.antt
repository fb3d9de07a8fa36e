use Rattle.step_needs.proofs.WriteLemmas.{changes_find}
use Rattle.step_needs.proofs.writes.changes_find_their_parts.Goals as goal

pub returns : goal.returns
returns c = changes_find
