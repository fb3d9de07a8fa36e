use Rattle.std.proofs.Common.{rules, refl}
use Rattle.request_calls.specs.Calls.{group_read}
use Rattle.request_fields.proofs.Chains.{ends}
use Rattle.request_calls.proofs.reads.group_read.Goals as goal

pub returns-in_err-name-clause-value : goal.returns-in_err-name-clause-value
unfolding group_read
returns-in_err-name-clause-value c = search (rules, ends, c.in_err-name.ensures)

pub returns-clause-value : goal.returns-clause-value
unfolding group_read
returns-clause-value c = rw c.in_ok-name.ensures refl
