use Rattle.step_journal.proofs.NeedLemmas.{ends_short}
use Rattle.step_journal.proofs.laws.ends_are_short.Goals as goal

pub returns : goal.returns
returns c = ends_short
