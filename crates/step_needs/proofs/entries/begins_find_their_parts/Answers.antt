use Rattle.step_needs.proofs.EntryLemmas.{begins_find}
use Rattle.step_needs.proofs.entries.begins_find_their_parts.Goals as goal

pub returns : goal.returns
returns c = begins_find
