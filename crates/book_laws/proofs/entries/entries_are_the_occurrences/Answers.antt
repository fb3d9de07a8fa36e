use Rattle.book_laws.proofs.EntriesExact.{entries_occur, occurrences_entered, entries_exact, entries_rise, unentered_are_the_rest}
use Rattle.book_laws.proofs.entries.entries_are_the_occurrences.Goals as goal

pub returns-clause-occur : goal.returns-clause-occur
returns-clause-occur c = entries_occur

pub returns-clause-entered : goal.returns-clause-entered
returns-clause-entered c = occurrences_entered

pub returns-clause-exact : goal.returns-clause-exact
returns-clause-exact c = entries_exact

pub returns-clause-once : goal.returns-clause-once
returns-clause-once c = entries_rise

pub returns-clause-rest : goal.returns-clause-rest
returns-clause-rest c = unentered_are_the_rest
