use Rattle.std.proofs.Common.{arith, sym, subst, take}
use Rattle.journal_file.specs.Journals.{IsPiece, Piece}
use Rattle.journal_file.proofs.PieceLemmas.{part_at}
use Rattle.journal_file.proofs.ahead.Ahead.part.Goals as goal

pub returns-clause-piece : goal.returns-clause-piece
returns-clause-piece c file is =
    let was : IsPiece (record { start = c.self.inside.start; bytes = take c.self.inside.count c.self.inside.bytes }) file = subst (λ (p : Piece). IsPiece p file) (sym c.self.view_is) is in
    part_at c.self.inside.bytes file c.self.inside.start c.args.at c.self.inside.count (omega arith) (omega arith) (omega arith) was
