use Rattle.book_enters.specs.Finding.{EnterFinds}
use Rattle.book_core.proofs.taking.enter.Goals as goal

found : (c : goal.After-pairs-1) → EnterFinds c.args.parts.now c.args.at c.args.inc c.args.pairs
found c =
    c.enters_find_their_parts.ensures _ c.requires.sound.stood.history c.args.at c.args.inc c.args.pairs
    c.requires.sound.stood.stands.parts c.requires.valid (c.requires.may c.requires.sound.stood.history c.requires.sound.stood.stands)

pub enter-requires-clause-there : goal.enter-requires-clause-there
enter-requires-clause-there c = (found c).there

pub enter-requires-clause-entrance : goal.enter-requires-clause-entrance
enter-requires-clause-entrance c = (found c).entrance
