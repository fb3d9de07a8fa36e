use Rattle.std.proofs.Common.{rules}
use Rattle.request_fields.proofs.Chains.{ends}
use Rattle.request_calls.specs.Calls.{call_with}
use Rattle.request_calls.proofs.decoding.call_with.Goals as goal

pub returns-in_err-route-clause-value : goal.returns-in_err-route-clause-value
unfolding call_with
returns-in_err-route-clause-value c = search (rules, ends, c.in_err-route.ensures)

pub returns-in_err-asked-clause-value : goal.returns-in_err-asked-clause-value
unfolding call_with
returns-in_err-asked-clause-value c = rw c.in_ok-route.ensures (search (rules, ends, c.in_err-asked.ensures))

pub returns-clause-value : goal.returns-clause-value
unfolding call_with
returns-clause-value c =
    let call = rw (c.segment_of.ensures, c.as_slice.ensures) at c.call_at.ensures.value in
    rw (c.in_ok-route.ensures, c.in_ok-asked.ensures) call
