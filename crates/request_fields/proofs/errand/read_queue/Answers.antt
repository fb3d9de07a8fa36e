use Rattle.std.proofs.Common.{rules}
use Rattle.request_fields.specs.Contents.{queue_of}
use Rattle.request_fields.proofs.Chains.{object_ends}
use Rattle.request_fields.proofs.errand.read_queue.Goals as goal

pub returns-in_err-letters : goal.returns-in_err-letters
unfolding queue_of
returns-in_err-letters c = let e = rw c.left_out-none.ensures at c.in_err-letters.ensures in search (rules, object_ends, e)

pub returns : goal.returns
unfolding queue_of
returns c = let e = rw c.left_out-none.ensures at c.in_ok-letters.ensures in rw e c.read_queue_arn.ensures
