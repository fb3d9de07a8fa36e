use Rattle.std.proofs.Common.{rules, refl}
use Rattle.request_fields.proofs.Chains.{ends}
use Rattle.request_calls.specs.Calls.{execution_read}
use Rattle.request_calls.proofs.reads.execution_read.Goals as goal

pub returns-in_err-inc-clause-value : goal.returns-in_err-inc-clause-value
unfolding execution_read
returns-in_err-inc-clause-value c = let e = rw c.execution_word.ensures at c.in_err-inc.ensures in search (rules, ends, e)

pub returns-clause-value : goal.returns-clause-value
unfolding execution_read
returns-clause-value c = let e = rw c.execution_word.ensures at c.in_ok-inc.ensures in rw e refl
