use Rattle.std.proofs.lemmas.Bool.{both_ways}
use Rattle.command_words.proofs.WordLemmas.{not_four}
use Rattle.command_words.proofs.reading.next.Goals as goal

pub returns-else-branch : goal.returns-else-branch
returns-else-branch c = not_four c.args.words.now (λ four. both_ways _ c.if-branch.false (c.in_ok-takes_four.ensures.1 four))
