use Rattle.durable_writes.proofs.EnterLemmas.{enters_found, leaves_found}
use Rattle.durable_writes.proofs.ResultLemmas.{ok_more, err_more}
use Rattle.durable_writes.proofs.entering.enter.Goals as goal

pub enter_found-requires-clause-lives : goal.enter_found-requires-clause-lives
enter_found-requires-clause-lives g c =
    let found = c.in_default.ensures.settled c.requires.lives.0 c.requires.lives.1 c.requires.lives.2 in
    (c.requires.lives.0, found.0, found.1)

pub returns-clause-entered : goal.returns-clause-entered
returns-clause-entered g c =
    ok_more _ _ c.enter_found.result (λ many went. enters_found _ _ _ _ c.args.at.0 c.args.inc many _ _ c.in_default.ensures.settled went) c.enter_found.ensures.entered

pub returns-clause-refused : goal.returns-clause-refused
returns-clause-refused g c =
    err_more _ _ c.enter_found.result (λ fault stayed. leaves_found _ _ _ _ _ c.args.at.0 c.args.inc _ _ fault c.in_default.ensures.settled stayed) c.enter_found.ensures.refused
