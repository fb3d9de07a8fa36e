use Rattle.std.proofs.Common.{sym, arith}
use Rattle.timer_work.proofs.sweep.shard.next_work.Goals as goal

pub returns : goal.returns
returns g c = λ since h st.
    let held = g.met.K.Keeper.holds _ since h st in
    let stands = c.book.ensures.stands since h held in
    let early = g.met.K.Keeper.early _ since h held in
    let later = c.requires.later in
    record {
      asked = sym (c.next_work.ensures h stands);
      good = record {
        legal = g.met.K.Book.Machine.legal_history _ h stands;
        valid = g.met.K.Book.Machine.valid_history _ h stands;
        early = omega (arith, early, later);
        late = c.requires.moment;
      };
    }
