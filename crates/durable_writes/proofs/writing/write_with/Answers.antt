use Rattle.sched_plain.specs.declared.step.Step.TheVariants as steps
use Rattle.durable_writes.proofs.ResultLemmas.{ok_more, err_more}
use Rattle.durable_writes.proofs.WriteLemmas.{zone_good, zone_frees, writes_zoned, ends_zoned, ends_unzoned, risen_later}
use Rattle.durable_writes.proofs.writing.write_with.Goals as goal

pub add_lawful-requires-clause-valid : goal.add_lawful-requires-clause-valid
add_lawful-requires-clause-valid g c =
    let lives = c.requires.lives in
    (zone_good lives.1 c.args.at.0 c.args.write.now c.args.name c.args.bytes lives.3 c.requires.valid (c.requires.planned lives.0 lives.1 lives.2) c.requires.zone).valid.1

pub add_lawful-requires-clause-lawful : goal.add_lawful-requires-clause-lawful
add_lawful-requires-clause-lawful g c =
    let lives = c.requires.lives in (
      lives.0,
      lives.1,
      lives.2,
      (zone_good lives.1 c.args.at.0 c.args.write.now c.args.name c.args.bytes lives.3 c.requires.valid (c.requires.planned lives.0 lives.1 lives.2) c.requires.zone).legal.1,
    )

pub returns-in-Err-clause-ended : goal.returns-in-Err-clause-ended
returns-in-Err-clause-ended g c = λ zones had since h st.
    (h, c.in-Err.ensures.stays since h st, ends_unzoned _ h c.args.at.0 c.args.write.now zones _ (steps.Zone c.args.at c.args.name c.args.bytes) c.write_fault.result c.in-Err.fault c.write_fault.ensures (c.in-Err.ensures.cause since h st))

pub write_free-requires-clause-lives : goal.write_free-requires-clause-lives
write_free-requires-clause-lives g c =
    let lives = c.requires.lives in
    let planned = c.requires.planned lives.0 lives.1 lives.2 in
    let good = zone_good lives.1 c.args.at.0 c.args.write.now c.args.name c.args.bytes lives.3 c.requires.valid planned c.requires.zone in
    (lives.0, _, c.in_default.ensures.kept lives.0 lives.1 lives.2, (zone_frees lives.1 c.args.at.0 c.args.write.now c.args.name c.args.bytes planned, good.legal))

pub returns-clause-done : goal.returns-clause-done
returns-clause-done g c =
    ok_more _ _ c.write_free.result
    (λ reply done. λ zones had since h st.
    let planned = c.requires.planned since h st in
    let went = done since _ (c.in_default.ensures.kept since h st) (zone_frees h c.args.at.0 c.args.write.now c.args.name c.args.bytes planned) in
    (went.0, went.1, writes_zoned h went.0 c.args.at.0 c.args.write.now zones _ _ c.args.name c.args.bytes reply planned had c.requires.zone went.2))
    c.write_free.ensures.done

pub returns-clause-ended : goal.returns-clause-ended
returns-clause-ended g c =
    err_more _ _ c.write_free.result
    (λ fault stopped. λ zones had since h st.
    let planned = c.requires.planned since h st in
    let went = stopped since _ (c.in_default.ensures.kept since h st) (zone_frees h c.args.at.0 c.args.write.now c.args.name c.args.bytes planned) in
    (went.0, went.1, ends_zoned _ h went.0 c.args.at.0 c.args.write.now zones _ _ c.args.name c.args.bytes fault went.2.denied planned had c.requires.zone went.2.as_told went.2.stopped))
    c.write_free.ensures.stopped

pub returns-clause-risen : goal.returns-clause-risen
returns-clause-risen g c =
    err_more _ _ c.write_free.result (λ fault risen. λ zone zone'. risen_later _ _ _ zone zone' fault c.add_lawful.ensures.faults (risen zone zone')) c.write_free.ensures.risen
