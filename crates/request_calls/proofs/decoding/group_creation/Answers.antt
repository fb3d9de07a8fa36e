use Rattle.std.proofs.Common.{rules}
use Rattle.request_fields.proofs.Chains.{owned_ends}
use Rattle.request_calls.proofs.decoding.group_creation.Goals as goal

pub returns-in_err-object-clause-value : goal.returns-in_err-object-clause-value
returns-in_err-object-clause-value c = λ asked. search (rules, owned_ends, c.in_err-object.ensures)

pub returns-clause-value : goal.returns-clause-value
returns-clause-value c = λ asked. rw c.in_ok-object.ensures c.read_group_creation.ensures.value
