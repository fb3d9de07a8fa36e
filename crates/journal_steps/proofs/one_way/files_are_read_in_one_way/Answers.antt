use Rattle.journal_steps.proofs.ChainLemmas.{one_history}
use Rattle.journal_steps.proofs.ReadingLemmas.{one_reading}
use Rattle.journal_steps.proofs.one_way.files_are_read_in_one_way.Goals as goal

pub returns-clause-one : goal.returns-clause-one
returns-clause-one c = one_reading

pub returns-clause-records : goal.returns-clause-records
returns-clause-records c = one_history
