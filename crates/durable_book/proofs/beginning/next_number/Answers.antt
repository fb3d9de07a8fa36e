use Rattle.std.proofs.Common.{sym, ◌∙◌, arith}
use Rattle.durable_book.proofs.EntryLemmas.{uses_are_few}
use Rattle.durable_book.proofs.beginning.next_number.Goals as goal

pub overflow_add-result : goal.overflow_add-result
overflow_add-result g c =
    let h = c.requires.lives.0 in
    let st = c.requires.lives.1 in
    let few = uses_are_few h c.args.inc c.args.instant c.in-Some.entry (g.met.M.Machine.legal_history _ h st) (g.met.M.Machine.valid_history _ h st)
    c.attempts_are_numbered.ensures.counted c.attempts_are_numbered.ensures.allowed (sym c.in-Some.is ∙ c.entry.ensures h st) in
    omega (arith, few)
