use Rattle.step_needs.proofs.EntryLemmas.{closes_find}
use Rattle.step_needs.proofs.entries.closes_find_their_parts.Goals as goal

pub returns : goal.returns
returns c = closes_find
