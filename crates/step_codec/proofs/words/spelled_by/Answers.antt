use Rattle.std.proofs.Common.{refl}
use Rattle.expr_grammar.proofs.Laws.{spelled_no_fault}
use Rattle.step_codec.proofs.words.spelled_by.Goals as goal

pub returns-in-Ok : goal.returns-in-Ok
returns-in-Ok c =
    let spells = (c.in-Ok.ensures.spelled c.in-Ok.expr).0 refl in
    record { spells = spells; is = rw (spelled_no_fault c.args.text.now c.in-Ok.expr spells) refl }

pub returns-in-Err : goal.returns-in-Err
returns-in-Err c =
    let found = (c.in-Err.ensures.faulty c.in-Err.field-0).0 refl in
    record { spells = tt; is = rw found refl }
