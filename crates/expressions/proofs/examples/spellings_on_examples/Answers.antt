use Rattle.expressions.proofs.SpellingRows.{texts_spell, canonical_texts, first_faults, no_faults}
use Rattle.expressions.proofs.examples.spellings_on_examples.Goals as goal

pub returns-clause-spelled : goal.returns-clause-spelled
returns-clause-spelled c = texts_spell

pub returns-clause-canonical : goal.returns-clause-canonical
returns-clause-canonical c = canonical_texts

pub returns-clause-faults : goal.returns-clause-faults
returns-clause-faults c = first_faults

pub returns-clause-none : goal.returns-clause-none
returns-clause-none c = no_faults
