use Rattle.std.proofs.Common.{rules, refl}
use Rattle.request_fields.proofs.Chains.{as_owned, ends, owned_ends}
use Rattle.request_calls.proofs.put.group_body.Goals as goal

pub returns-in_err-object : goal.returns-in_err-object
returns-in_err-object c = search (rules, owned_ends, as_owned, c.in_err-object.ensures)

pub returns-in_err-refuse_unknown_in_group : goal.returns-in_err-refuse_unknown_in_group
returns-in_err-refuse_unknown_in_group c = rw c.in_ok-object.ensures (search (rules, ends, as_owned, c.in_err-refuse_unknown_in_group.ensures))

pub returns : goal.returns
returns c = rw (c.in_ok-object.ensures, c.in_ok-refuse_unknown_in_group.ensures) refl
