use Rattle.book_laws.proofs.OutcomesStay.{outcomes_stay, decided_once, closes_decide}
use Rattle.book_laws.proofs.outcomes.entries_are_decided_once.Goals as goal

pub returns-clause-stays : goal.returns-clause-stays
returns-clause-stays c = outcomes_stay

pub returns-clause-once : goal.returns-clause-once
returns-clause-once c = decided_once

pub returns-clause-closed : goal.returns-clause-closed
returns-clause-closed c = closes_decide
