use Rattle.step_needs.proofs.WriteLemmas.{dates_fit, tokens_fit}
use Rattle.step_needs.proofs.writes.room_is_all_that_is_left.Goals as goal

pub returns-clause-tokens : goal.returns-clause-tokens
returns-clause-tokens c = tokens_fit

pub returns-clause-dates : goal.returns-clause-dates
returns-clause-dates c = dates_fit
