use Rattle.std.proofs.Common.{refl, inl}
use Rattle.expr_grammar.specs.Answers.{told}
use Rattle.next_command.proofs.answer.answer.Goals as goal

pub returns-in-Ok-text_of_fault-clause-answered : goal.returns-in-Ok-text_of_fault-clause-answered
returns-in-Ok-text_of_fault-clause-answered g c =
    inl (record { it = told c.in-Err.fault; first = (c.in-Err.ensures.faulty c.in-Err.fault).0 refl; told = c.in-Ok-text_of_fault.ensures })
