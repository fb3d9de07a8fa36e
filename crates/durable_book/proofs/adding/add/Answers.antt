use Rattle.durable_book.proofs.adding.add.Goals as goal

pub returns-in-Err-clause-disk : goal.returns-in-Err-clause-disk
returns-in-Err-clause-disk g c = c.in-Err.ensures.disk (g.K.Keeper.faults c.args.keeper.now)
