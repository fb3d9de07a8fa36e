use Rattle.std.proofs.Common.{rules, refl}
use Rattle.request_fields.proofs.Chains.{as_owned, ends, owned_ends}
use Rattle.request_calls.proofs.put.schedule_body.Goals as goal

pub returns-in_err-object : goal.returns-in_err-object
returns-in_err-object c = search (rules, owned_ends, as_owned, c.in_err-object.ensures)

pub returns-in_err-refuse_unknown_in_schedule : goal.returns-in_err-refuse_unknown_in_schedule
returns-in_err-refuse_unknown_in_schedule c = rw c.in_ok-object.ensures (search (rules, ends, as_owned, c.in_err-refuse_unknown_in_schedule.ensures))

pub returns : goal.returns
returns c = rw (c.in_ok-object.ensures, c.in_ok-refuse_unknown_in_schedule.ensures) refl
