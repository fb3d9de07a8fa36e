use Rattle.book_laws.proofs.LettersOwed.{letters_are_owed}
use Rattle.book_laws.proofs.letters.letters_are_owed.Goals as goal

pub returns : goal.returns
returns c = letters_are_owed
