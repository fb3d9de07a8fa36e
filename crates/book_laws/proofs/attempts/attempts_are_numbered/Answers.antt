use Rattle.book_laws.proofs.BeginsDiffer.{begins_differ, numbers_count, entries_count, attempts_allowed}
use Rattle.book_laws.proofs.attempts.attempts_are_numbered.Goals as goal

pub returns-clause-once : goal.returns-clause-once
returns-clause-once c = begins_differ

pub returns-clause-numbers : goal.returns-clause-numbers
returns-clause-numbers c = numbers_count

pub returns-clause-counted : goal.returns-clause-counted
returns-clause-counted c = entries_count

pub returns-clause-allowed : goal.returns-clause-allowed
returns-clause-allowed c = attempts_allowed
