use Rattle.book_core.proofs.taking.close.Goals as goal

pub close-requires-clause-there : goal.close-requires-clause-there
close-requires-clause-there c =
    (c.closes_find_their_parts.ensures _ c.requires.sound.stood.history c.args.at c.args.inc c.args.instant c.args.reason
    c.requires.sound.stood.stands.parts c.requires.valid (c.requires.may c.requires.sound.stood.history c.requires.sound.stood.stands)).there
