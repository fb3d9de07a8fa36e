use Rattle.std.proofs.Common.{subst}
use Rattle.book_parts.specs.Stands.{calendar}
use Rattle.write_plans.specs.declared.plan.Plan.{Plan}
use Rattle.write_plans.specs.Planning.{IsPlanned}
use Rattle.durable_writes.proofs.ResultLemmas.{ok_more, err_more}
use Rattle.durable_writes.proofs.WriteLemmas.{writes_refused, writes_known, catching_is_free, ready_is_unhindered, writes_accepted, ends_stopped}
use Rattle.durable_writes.proofs.writing.write_planned.Goals as goal

pub returns-in-Refused-clause-ended : goal.returns-in-Refused-clause-ended
returns-in-Refused-clause-ended g c = λ since h st.
    let planned = subst (λ (p : Plan). IsPlanned calendar h c.args.at.0 c.args.write.now p) c.in-Refused.is (c.requires.planned since h st) in
    (h, g.met.K.Keeper.holds _ since h st, writes_refused h c.args.at.0 c.args.write.now _ _ c.in-Refused.refusal planned)

pub returns-in-Known-clause-done : goal.returns-in-Known-clause-done
returns-in-Known-clause-done g c = λ since h st.
    let planned = subst (λ (p : Plan). IsPlanned calendar h c.args.at.0 c.args.write.now p) c.in-Known.is (c.requires.planned since h st) in
    (h, st, writes_known h c.args.at.0 c.args.write.now _ _ c.in-Known.reply planned)

pub write_free-requires-clause-lives : goal.write_free-requires-clause-lives
write_free-requires-clause-lives g c =
    let lives = c.requires.lives in
    let planned = subst (λ (p : Plan). IsPlanned calendar lives.1 c.args.at.0 c.args.write.now p) c.in-CatchUp.is (c.requires.planned lives.0 lives.1 lives.2) in
    (lives.0, lives.1, lives.2, (catching_is_free lives.1 c.args.at.0 c.args.write.now c.in-CatchUp.inc planned, lives.3.legal))

pub returns-in-CatchUp-clause-done : goal.returns-in-CatchUp-clause-done
returns-in-CatchUp-clause-done g c =
    ok_more _ _ c.write_free.result
    (λ reply done. λ since h st.
    let planned = subst (λ (p : Plan). IsPlanned calendar h c.args.at.0 c.args.write.now p) c.in-CatchUp.is (c.requires.planned since h st) in
    let went = done since h st (catching_is_free h c.args.at.0 c.args.write.now c.in-CatchUp.inc planned) in
    (went.0, went.1, writes_accepted h went.0 c.args.at.0 c.args.write.now _ _ _ reply went.2))
    c.write_free.ensures.done

pub returns-in-CatchUp-clause-ended : goal.returns-in-CatchUp-clause-ended
returns-in-CatchUp-clause-ended g c =
    err_more _ _ c.write_free.result
    (λ fault stopped. λ since h st.
    let planned = subst (λ (p : Plan). IsPlanned calendar h c.args.at.0 c.args.write.now p) c.in-CatchUp.is (c.requires.planned since h st) in
    let went = stopped since h st (catching_is_free h c.args.at.0 c.args.write.now c.in-CatchUp.inc planned) in
    (went.0, went.1, ends_stopped _ h went.0 c.args.at.0 c.args.write.now _ _ _ fault went.2.denied went.2.as_told went.2.stopped))
    c.write_free.ensures.stopped

pub write_free-requires-in-Ready-clause-lives : goal.write_free-requires-in-Ready-clause-lives
write_free-requires-in-Ready-clause-lives g c =
    let lives = c.requires.lives in
    let planned = subst (λ (p : Plan). IsPlanned calendar lives.1 c.args.at.0 c.args.write.now p) c.in-Ready.is (c.requires.planned lives.0 lives.1 lives.2) in
    (lives.0, lives.1, lives.2, (ready_is_unhindered lives.1 c.args.at.0 c.args.write.now c.in-Ready.field-0 planned, lives.3.legal))

pub returns-clause-done : goal.returns-clause-done
returns-clause-done g c =
    ok_more _ _ c.write_free-in-Ready.result
    (λ reply done. λ since h st.
    let planned = subst (λ (p : Plan). IsPlanned calendar h c.args.at.0 c.args.write.now p) c.in-Ready.is (c.requires.planned since h st) in
    let went = done since h st (ready_is_unhindered h c.args.at.0 c.args.write.now c.in-Ready.field-0 planned) in
    (went.0, went.1, writes_accepted h went.0 c.args.at.0 c.args.write.now _ _ _ reply went.2))
    c.write_free-in-Ready.ensures.done

pub returns-clause-ended : goal.returns-clause-ended
returns-clause-ended g c =
    err_more _ _ c.write_free-in-Ready.result
    (λ fault stopped. λ since h st.
    let planned = subst (λ (p : Plan). IsPlanned calendar h c.args.at.0 c.args.write.now p) c.in-Ready.is (c.requires.planned since h st) in
    let went = stopped since h st (ready_is_unhindered h c.args.at.0 c.args.write.now c.in-Ready.field-0 planned) in
    (went.0, went.1, ends_stopped _ h went.0 c.args.at.0 c.args.write.now _ _ _ fault went.2.denied went.2.as_told went.2.stopped))
    c.write_free-in-Ready.ensures.stopped
