use Rattle.book_laws.proofs.TokensKept.{stand_once}
use Rattle.book_laws.proofs.tokens.tokens_stand_once.Goals as goal

pub returns : goal.returns
returns c = stand_once
