use Rattle.step_needs.proofs.EntryLemmas.{ends_find}
use Rattle.step_needs.proofs.entries.ends_find_their_parts.Goals as goal

pub returns : goal.returns
returns c = ends_find c.live_attempts_are_aloft.ensures
