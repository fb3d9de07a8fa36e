use Rattle.std.proofs.Common.{rules}
use Rattle.request_fields.specs.Contents.{policy_of}
use Rattle.request_fields.proofs.Chains.{object_ends}
use Rattle.request_fields.proofs.errand.read_policy.Goals as goal

pub returns-in_err-policy : goal.returns-in_err-policy
unfolding policy_of
returns-in_err-policy c = let e = rw c.left_out-none.ensures at c.in_err-policy.ensures in search (rules, object_ends, e)

pub returns : goal.returns
unfolding policy_of
returns c = let e = rw c.left_out-none.ensures at c.in_ok-policy.ensures in rw e c.read_limits.ensures
