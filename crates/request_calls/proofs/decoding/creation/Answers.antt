use Rattle.std.proofs.Common.{rules}
use Rattle.request_fields.proofs.Chains.{ends, owned_ends}
use Rattle.request_calls.proofs.decoding.creation.Goals as goal

pub returns-in_err-object-clause-value : goal.returns-in_err-object-clause-value
returns-in_err-object-clause-value c = λ asked. search (rules, owned_ends, c.in_err-object.ensures)

pub returns-in_err-put-clause-value : goal.returns-in_err-put-clause-value
returns-in_err-put-clause-value c = λ asked. rw c.in_ok-object.ensures (search (rules, ends, c.in_err-put.ensures.value))

pub returns-clause-value : goal.returns-clause-value
returns-clause-value c = λ asked. rw (c.in_ok-object.ensures, c.in_ok-put.ensures.value) (cc c.creation_of.ensures.value)
