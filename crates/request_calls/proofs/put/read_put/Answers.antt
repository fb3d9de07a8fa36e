use Rattle.std.proofs.Common.{rules, refl}
use Rattle.request_calls.specs.Calls.{put_of}
use Rattle.request_fields.proofs.Chains.{ends}
use Rattle.request_calls.proofs.put.read_put.Goals as goal

pub returns-in_err-name-clause-value : goal.returns-in_err-name-clause-value
unfolding put_of
returns-in_err-name-clause-value c = search (rules, ends, c.in_err-name.ensures)

pub returns-in_err-group-clause-value : goal.returns-in_err-group-clause-value
unfolding put_of
returns-in_err-group-clause-value c = rw c.in_ok-name.ensures (search (rules, ends, c.in_err-group.ensures))

pub returns-in_err-token-clause-value : goal.returns-in_err-token-clause-value
unfolding put_of
returns-in_err-token-clause-value c = rw (c.in_ok-name.ensures, c.in_ok-group.ensures) (search (rules, ends, c.in_err-token.ensures))

pub returns-in_err-content-clause-value : goal.returns-in_err-content-clause-value
unfolding put_of
returns-in_err-content-clause-value c = rw (c.in_ok-name.ensures, c.in_ok-group.ensures, c.in_ok-token.ensures) (search (rules, ends, c.in_err-content.ensures.value))

pub returns-clause-value : goal.returns-clause-value
unfolding put_of
returns-clause-value c = rw (c.in_ok-name.ensures, c.in_ok-group.ensures, c.in_ok-token.ensures, c.in_ok-content.ensures.value) refl
