use Rattle.std.proofs.Common.{arith}
use Rattle.durable_book.proofs.ActLemmas.{refuses}
use Rattle.durable_book.proofs.EntryLemmas.{found_lives}
use Rattle.durable_book.proofs.RuleLemmas.{renewal_may}
use Rattle.durable_book.proofs.renewing.renew.Goals as goal

pub returns-in-Err-taken_by-clause-refused : goal.returns-in-Err-taken_by-clause-refused
returns-in-Err-taken_by-clause-refused g c =
    refuses _ _ _ _ _ c.in_default.ensures.settled (g.met.K.Keeper.holds _)
    (λ since h st. c.in-Err-taken_by.ensures.other h (c.book.ensures.stands since h (g.met.K.Keeper.holds _ since h st)))

pub add_lawful-requires-clause-lawful : goal.add_lawful-requires-clause-lawful
add_lawful-requires-clause-lawful g c =
    let (since, h, st) = found_lives _ _ _ c.requires.lives c.in_default.ensures.settled in
    let held = g.met.K.Keeper.holds _ since h st in
    let early = c.mend.ensures.early since h held in
    let later = c.requires.later in
    (since, h, st, renewal_may h c.args.at.0 c.args.shard c.args.worker c.args.epoch (omega (arith, early, later)) (c.in_default-taken_by.ensures.taker h (c.book.ensures.stands since h held)))
