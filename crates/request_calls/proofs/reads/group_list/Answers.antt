use Rattle.std.proofs.Common.{rules, refl}
use Rattle.request_calls.specs.Calls.{group_list}
use Rattle.request_fields.proofs.Chains.{ends}
use Rattle.request_calls.proofs.reads.group_list.Goals as goal

pub returns-in_err-max-clause-value : goal.returns-in_err-max-clause-value
unfolding group_list
returns-in_err-max-clause-value c = search (rules, ends, c.in_err-max.ensures)

pub returns-in_err-prefix-clause-value : goal.returns-in_err-prefix-clause-value
unfolding group_list
returns-in_err-prefix-clause-value c = rw c.in_ok-max.ensures (search (rules, ends, c.in_err-prefix.ensures))

pub returns-in_err-after-clause-value : goal.returns-in_err-after-clause-value
unfolding group_list
returns-in_err-after-clause-value c = rw (c.in_ok-max.ensures, c.in_ok-prefix.ensures) (search (rules, ends, c.in_err-after.ensures))

pub returns-clause-value : goal.returns-clause-value
unfolding group_list
returns-clause-value c = rw (c.in_ok-max.ensures, c.in_ok-prefix.ensures, c.in_ok-after.ensures) refl
