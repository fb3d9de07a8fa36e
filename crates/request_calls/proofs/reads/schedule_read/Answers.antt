use Rattle.std.proofs.Common.{rules, refl}
use Rattle.request_calls.specs.Calls.{schedule_read}
use Rattle.request_fields.proofs.Chains.{ends}
use Rattle.request_calls.proofs.reads.schedule_read.Goals as goal

pub returns-in_err-name-clause-value : goal.returns-in_err-name-clause-value
unfolding schedule_read
returns-in_err-name-clause-value c = search (rules, ends, c.in_err-name.ensures)

pub returns-in_err-group-clause-value : goal.returns-in_err-group-clause-value
unfolding schedule_read
returns-in_err-group-clause-value c = rw c.in_ok-name.ensures (search (rules, ends, c.in_err-group.ensures))

pub returns-clause-value : goal.returns-clause-value
unfolding schedule_read
returns-clause-value c = rw (c.in_ok-name.ensures, c.in_ok-group.ensures) refl
