use Rattle.std.proofs.Common.{arith}
use Rattle.durable_writes.specs.declared.write_fault.WriteFault.TheVariants as faults
use Rattle.durable_writes.proofs.WriteLemmas.{cuts_nothing}
use Rattle.durable_writes.proofs.writing.write_found.Goals as goal

pub returns-in_default-clause-ended : goal.returns-in_default-clause-ended
returns-in_default-clause-ended g c = λ since h st.
    (h, g.met.K.Keeper.holds _ since h st, cuts_nothing _ h c.args.at.0 c.args.write.now _ _ faults.OutOfMemory tt)

pub write_planned-requires-clause-lives : goal.write_planned-requires-clause-lives
write_planned-requires-clause-lives g c =
    let lives = c.requires.lives in
    let held = g.met.K.Keeper.holds _ lives.0 lives.1 lives.2 in
    let stands = c.book.ensures.stands lives.0 lives.1 held in
    let early = g.met.K.Keeper.early _ lives.0 lives.1 held in
    let later = c.requires.later in (
      lives.0,
      lives.1,
      lives.2,
      record {
        legal = g.met.K.Book.Machine.legal_history _ lives.1 stands;
        valid = g.met.K.Book.Machine.valid_history _ lives.1 stands;
        early = omega (arith, early, later);
        late = c.requires.moment;
      },
    )
