use Rattle.sched_top.proofs.batch.start.Goals as goal

pub returns-in-Ok-clause-started : goal.returns-in-Ok-clause-started
returns-in-Ok-clause-started g c =
    let (since, stands) = c.requires.empty in
    (since, g.met.K.Keeper.holds c.add.new.keeper since _ (c.in-Ok.ensures.kept since _ stands))

pub add-requires-clause-settled : goal.add-requires-clause-settled
add-requires-clause-settled g c = c.requires.memory.settled c.args.keeper.now
