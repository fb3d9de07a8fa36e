use Rattle.book_completions.proofs.FindLemmas.{completes_find}
use Rattle.book_completions.proofs.finds.completes_find_their_parts.Goals as goal

pub returns : goal.returns
returns c = completes_find
