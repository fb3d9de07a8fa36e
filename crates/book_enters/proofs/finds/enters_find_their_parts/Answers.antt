use Rattle.book_enters.proofs.FindLemmas.{enters_find}
use Rattle.book_enters.proofs.finds.enters_find_their_parts.Goals as goal

pub returns : goal.returns
returns c = enters_find
