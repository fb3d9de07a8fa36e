use Rattle.book_laws.proofs.SweptLeaves.{swept_leaves_nothing}
use Rattle.book_laws.proofs.sweeps.swept_leaves_nothing.Goals as goal

pub returns : goal.returns
returns c = swept_leaves_nothing
