use Rattle.step_needs.specs.Entries.{BeginFinds}
use Rattle.book_core.proofs.taking.begin.Goals as goal

found : (c : goal.After-begin-arg-1) → BeginFinds c.args.parts.now c.args.at c.args.inc c.args.instant c.args.number
found c =
    c.begins_find_their_parts.ensures _ c.requires.sound.stood.history c.args.at c.args.inc c.args.instant c.args.number c.args.epoch
    c.requires.sound.stood.stands.parts c.requires.valid (c.requires.may c.requires.sound.stood.history c.requires.sound.stood.stands)

pub begin-requires-clause-due : goal.begin-requires-clause-due
begin-requires-clause-due c = (found c).due

pub begin-requires-clause-number : goal.begin-requires-clause-number
begin-requires-clause-number c = (found c).number

pub begin-requires-clause-there : goal.begin-requires-clause-there
begin-requires-clause-there c = (found c).there

pub begin-requires-clause-come : goal.begin-requires-clause-come
begin-requires-clause-come c = (found c).come
