use Rattle.sched_plain.proofs.Histories.{sweeps_are_legal, broken_steps, finishing, standings, letters_and_marks, occurring, reported, attempting, folded_hours_read, folded_letter_read}
use Rattle.sched_plain.proofs.examples.definitions_on_examples.Goals as goal

pub returns-clause-sweeps : goal.returns-clause-sweeps
returns-clause-sweeps c = sweeps_are_legal

pub returns-clause-broken : goal.returns-clause-broken
returns-clause-broken c = broken_steps

pub returns-clause-standings : goal.returns-clause-standings
returns-clause-standings c = standings

pub returns-clause-letters : goal.returns-clause-letters
returns-clause-letters c = letters_and_marks

pub returns-clause-occurrences : goal.returns-clause-occurrences
returns-clause-occurrences c = occurring

pub returns-clause-reports : goal.returns-clause-reports
returns-clause-reports c = reported

pub returns-clause-attempts : goal.returns-clause-attempts
returns-clause-attempts c = attempting

pub returns-clause-finishing : goal.returns-clause-finishing
returns-clause-finishing c = finishing

pub returns-clause-folded : goal.returns-clause-folded
returns-clause-folded c = folded_hours_read

pub returns-clause-kept : goal.returns-clause-kept
returns-clause-kept c = folded_letter_read
