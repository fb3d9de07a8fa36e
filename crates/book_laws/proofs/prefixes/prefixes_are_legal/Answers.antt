use Rattle.book_laws.proofs.FirstSteps.{prefixes_are_legal, first_of}
use Rattle.book_laws.proofs.prefixes.prefixes_are_legal.Goals as goal

pub returns-clause-legal : goal.returns-clause-legal
returns-clause-legal c = prefixes_are_legal

pub returns-clause-firsts : goal.returns-clause-firsts
returns-clause-firsts c = first_of
