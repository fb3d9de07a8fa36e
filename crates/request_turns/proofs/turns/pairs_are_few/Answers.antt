use Rattle.request_turns.proofs.Pairs.{few_pairs}
use Rattle.request_turns.proofs.turns.pairs_are_few.Goals as goal

pub returns : goal.returns
returns c = few_pairs
