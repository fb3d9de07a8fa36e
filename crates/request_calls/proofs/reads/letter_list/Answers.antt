use Rattle.std.proofs.Common.{rules, refl}
use Rattle.request_calls.specs.Calls.{letter_list}
use Rattle.request_fields.proofs.Chains.{ends}
use Rattle.request_calls.proofs.reads.letter_list.Goals as goal

pub returns-in_err-queue-clause-value : goal.returns-in_err-queue-clause-value
unfolding letter_list
returns-in_err-queue-clause-value c = search (rules, ends, c.in_err-queue.ensures)

pub returns-in_err-after-clause-value : goal.returns-in_err-after-clause-value
unfolding letter_list
returns-in_err-after-clause-value c = rw c.in_ok-queue.ensures (search (rules, ends, c.in_err-after.ensures))

pub returns-in_err-max-clause-value : goal.returns-in_err-max-clause-value
unfolding letter_list
returns-in_err-max-clause-value c = rw (c.in_ok-queue.ensures, c.in_ok-after.ensures) (search (rules, ends, c.in_err-max.ensures))

pub returns-clause-value : goal.returns-clause-value
unfolding letter_list
returns-clause-value c = rw (c.in_ok-queue.ensures, c.in_ok-after.ensures, c.in_ok-max.ensures) refl
