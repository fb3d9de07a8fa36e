use Rattle.std.proofs.Common.{ap, arith, length}
use Rattle.step_needs.specs.Entries.{EndFinds}
use Rattle.ledger_rows.specs.declared.row.Flight.{Flight}
use Rattle.book_parts.specs.Stands.{calendar}
use Rattle.book_core.proofs.taking.end.Goals as goal

found : (c : goal.After-end-arg-1) → EndFinds c.args.parts.now c.args.at c.args.inc c.args.instant c.args.number
found c =
    c.ends_find_their_parts.ensures _ c.requires.sound.stood.history c.args.at c.args.inc c.args.instant c.args.number c.args.verdict c.args.status
    c.requires.sound.stood.stands.parts c.requires.valid (c.requires.may c.requires.sound.stood.history c.requires.sound.stood.stands)

pub end-requires-clause-steps : goal.end-requires-clause-steps
end-requires-clause-steps c =
    let stood = c.requires.sound.stood in
    let pays = c.live_attempts_are_few.ensures.ends calendar stood.history c.args.at c.args.inc c.args.instant c.args.number c.args.verdict c.args.status
    stood.stands.parts.legal (c.requires.may stood.history stood.stands) in
    let live = pays.live in
    let light = c.requires.sound.light in
    let same = ap (length {A = Flight}) stood.stands.parts.ledger.air in
    omega (arith, live, light, same)

pub end-requires-clause-live : goal.end-requires-clause-live
end-requires-clause-live c = (found c).live

pub end-requires-clause-aloft : goal.end-requires-clause-aloft
end-requires-clause-aloft c = (found c).aloft

pub end-requires-clause-there : goal.end-requires-clause-there
end-requires-clause-there c = (found c).there
