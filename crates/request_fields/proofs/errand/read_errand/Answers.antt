use Rattle.std.proofs.Common.{rules, refl}
use Rattle.request_fields.specs.Contents.{errand_of}
use Rattle.request_fields.proofs.Chains.{ends, object_ends}
use Rattle.request_fields.proofs.errand.read_errand.Goals as goal

pub returns-in_err-object : goal.returns-in_err-object
unfolding errand_of
returns-in_err-object c = search (rules, object_ends, c.in_err-object.ensures)

pub returns-in_err-target : goal.returns-in_err-target
unfolding errand_of
returns-in_err-target c = rw c.in_ok-object.ensures (search (rules, ends, c.in_err-target.ensures))

pub returns-in_err-role : goal.returns-in_err-role
unfolding errand_of
returns-in_err-role c = rw (c.in_ok-object.ensures, c.in_ok-target.ensures) (search (rules, ends, c.in_err-role.ensures))

pub returns-in_err-queue : goal.returns-in_err-queue
unfolding errand_of
returns-in_err-queue c = rw (c.in_ok-object.ensures, c.in_ok-target.ensures, c.in_ok-role.ensures) (search (rules, ends, c.in_err-queue.ensures))

pub returns-in_err-input : goal.returns-in_err-input
unfolding errand_of
returns-in_err-input c = rw (c.in_ok-object.ensures, c.in_ok-target.ensures, c.in_ok-role.ensures, c.in_ok-queue.ensures) (search (rules, ends, c.in_err-input.ensures))

pub returns-in_err-policy : goal.returns-in_err-policy
unfolding errand_of
returns-in_err-policy c = rw (c.in_ok-object.ensures, c.in_ok-target.ensures, c.in_ok-role.ensures, c.in_ok-queue.ensures, c.in_ok-input.ensures) (search (rules, ends, c.in_err-policy.ensures))

pub returns : goal.returns
unfolding errand_of
returns c = rw (c.in_ok-object.ensures, c.in_ok-target.ensures, c.in_ok-role.ensures, c.in_ok-queue.ensures, c.in_ok-input.ensures, c.in_ok-policy.ensures) refl
