use Rattle.book_laws.proofs.MomentsRise.{moments_rise}
use Rattle.book_laws.proofs.moments.moments_never_fall.Goals as goal

pub returns : goal.returns
returns c = moments_rise
