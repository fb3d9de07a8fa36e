use Rattle.std.proofs.Common.{rules, refl}
use Rattle.request_calls.specs.Calls.{group_deletion}
use Rattle.request_fields.proofs.Chains.{ends}
use Rattle.request_calls.proofs.reads.group_deletion.Goals as goal

pub returns-in_err-name-clause-value : goal.returns-in_err-name-clause-value
unfolding group_deletion
returns-in_err-name-clause-value c = search (rules, ends, c.in_err-name.ensures)

pub returns-in_err-token-clause-value : goal.returns-in_err-token-clause-value
unfolding group_deletion
returns-in_err-token-clause-value c = rw c.in_ok-name.ensures (search (rules, ends, c.in_err-token.ensures))

pub returns-clause-value : goal.returns-clause-value
unfolding group_deletion
returns-clause-value c = rw (c.in_ok-name.ensures, c.in_ok-token.ensures) refl
