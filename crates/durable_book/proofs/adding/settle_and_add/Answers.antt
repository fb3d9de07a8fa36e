use Rattle.std.proofs.Common.{arith}
use Rattle.durable_book.proofs.ActLemmas.{refuses, stays_torn}
use Rattle.durable_book.proofs.adding.settle_and_add.Goals as goal

pub returns-in-Err-clause-refused : goal.returns-in-Err-clause-refused
returns-in-Err-clause-refused g c =
    stays_torn _ _ _ _ c.in-Err.ensures.torn
    (λ since h held.
    let early = c.mend.ensures.early since h (c.in-Err.ensures.torn since h held) in
    let later = c.requires.later in
    (tt, omega (arith, early, later)))

pub returns-in-Err-add-clause-refused : goal.returns-in-Err-add-clause-refused
returns-in-Err-add-clause-refused g c =
    refuses _ _ _ _ _ c.in_default.ensures.settled c.in-Err-add.ensures.stays
    (λ since h st.
    let early = c.mend.ensures.early since h (g.met.K.Keeper.holds _ since h st) in
    let later = c.requires.later in
    (c.in-Err-add.ensures.cause since h st, omega (arith, early, later)))
