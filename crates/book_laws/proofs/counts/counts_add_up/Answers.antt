use Rattle.book_laws.proofs.CountsAdd.{counts_add_up, entries_are_counted}
use Rattle.book_laws.proofs.counts.counts_add_up.Goals as goal

pub returns-clause-sum : goal.returns-clause-sum
returns-clause-sum c = counts_add_up

pub returns-clause-entries : goal.returns-clause-entries
returns-clause-entries c = entries_are_counted
