use Rattle.std.proofs.Common.{arith}
use Rattle.durable_writes.proofs.ChangeLemmas.{change_valid, change_follows, change_moment, change_own}
use Rattle.durable_writes.proofs.accepting.change.Goals as goal

pub add_lawful-requires-clause-valid : goal.add_lawful-requires-clause-valid
add_lawful-requires-clause-valid g c =
    let lives = c.requires.lives in
    change_valid lives.1 c.args.at.0 c.args.write.now c.args.ready (c.requires.ready lives.0 lives.1 lives.2) c.requires.moment c.requires.valid

pub add_lawful-requires-clause-lawful : goal.add_lawful-requires-clause-lawful
add_lawful-requires-clause-lawful g c =
    let lives = c.requires.lives in
    let early = g.met.K.Keeper.early _ lives.0 lives.1 (g.met.K.Keeper.holds _ lives.0 lives.1 lives.2) in
    let later = c.requires.later in (
      lives.0,
      lives.1,
      lives.2,
      change_follows lives.1 c.args.at.0 c.args.write.now c.args.ready (c.requires.ready lives.0 lives.1 lives.2) (omega (arith, early, later)),
    )

pub returns-in-Err-clause-latest : goal.returns-in-Err-clause-latest
returns-in-Err-clause-latest g c =
    let lives = c.requires.lives in
    let same = change_moment lives.1 c.args.at.0 c.args.write.now c.args.ready (c.requires.ready lives.0 lives.1 lives.2) in
    let later = c.requires.later in
    let last = c.add_lawful.ensures.latest (omega (arith, same, later)) in
    omega (arith, same, last)

pub returns-clause-latest : goal.returns-clause-latest
returns-clause-latest g c =
    let lives = c.requires.lives in
    let same = change_moment lives.1 c.args.at.0 c.args.write.now c.args.ready (c.requires.ready lives.0 lives.1 lives.2) in
    let later = c.requires.later in
    let last = c.add_lawful.ensures.latest (omega (arith, same, later)) in
    omega (arith, same, last)

pub returns-in-Err-clause-left : goal.returns-in-Err-clause-left
returns-in-Err-clause-left g c =
    let lives = c.requires.lives in
    c.in-Err.ensures.left (change_own lives.1 c.args.at.0 c.args.write.now c.args.ready (c.requires.ready lives.0 lives.1 lives.2))
