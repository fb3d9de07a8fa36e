use Rattle.std.proofs.Common.{Ok}
use Rattle.durable_writes.proofs.ResultLemmas.{ok_more, err_more}
use Rattle.durable_writes.proofs.WriteLemmas.{writes_found, ends_found, ends_torn}
use Rattle.durable_writes.proofs.writing.do_write.Goals as goal

pub returns-in-Err-clause-ended : goal.returns-in-Err-clause-ended
returns-in-Err-clause-ended g c = λ since h held. (h, c.in-Err.ensures.torn since h held, ends_torn _ _ h c.args.at.0 c.args.write.now _ _)

pub write_found-requires-clause-lives : goal.write_found-requires-clause-lives
write_found-requires-clause-lives g c =
    let found = c.in_default.ensures.settled c.requires.lives.0 c.requires.lives.1 c.requires.lives.2 in
    (c.requires.lives.0, found.0, found.1)

pub returns-clause-done : goal.returns-clause-done
returns-clause-done g c =
    ok_more _ _ c.write_found.result (λ reply went. writes_found _ _ _ _ c.args.at.0 c.args.write.now _ _ _ (Ok reply) c.in_default.ensures.settled went) c.write_found.ensures.done

pub returns-clause-ended : goal.returns-clause-ended
returns-clause-ended g c =
    err_more _ _ c.write_found.result (λ fault went. ends_found _ _ _ _ _ c.args.at.0 c.args.write.now _ _ _ fault c.in_default.ensures.settled went) c.write_found.ensures.ended
