use Rattle.journal_steps.proofs.ExampleLemmas.{on_examples}
use Rattle.journal_steps.proofs.examples.journals_on_examples.Goals as goal

pub returns : goal.returns
returns c = on_examples
