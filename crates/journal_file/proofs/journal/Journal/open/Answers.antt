use Rattle.std.proofs.Common.{◌≡◌, [], refl, sym, ◌∙◌, List, ℕ, Some, IfSome, take, subst, rules, Option, None}
use Rattle.std.proofs.lemmas.Option.{IfSome_then}
use Rattle.journal_file.specs.declared.format.TheConstants.{HEADER}
use Rattle.journal_file.specs.Format.{Begins}
use Rattle.journal_file.specs.Journals.{Piece, IsPiece}
use Rattle.journal_file.proofs.OpenLemmas.{header_begins}
use Rattle.journal_file.proofs.journal.Journal.open.Goals as goal

-- what is nothing is a piece of any file
nothing : (seen : Option (List ℕ)) (ahead : Piece) → ahead ≡ record { start = 0; bytes = [] } → IfSome seen (IsPiece ahead)
nothing None ahead is = tt
nothing (Some file) ahead is = subst (λ (a : Piece). IsPiece a file) (sym is) refl

pub returns-clause-passed : goal.returns-clause-passed
returns-clause-passed g c =
    let D = g.D.Disk in
    let header : take c.in_ok-count.count c.read.new.into ≡ HEADER = search rules in
    let begins : IfSome (D.seen c.sync.new.self) (Begins []) =
    IfSome_then (D.seen c.sync.new.self) c.in_ok-count.ensures.bytes (λ file is. header_begins file (take c.in_ok-count.count c.read.new.into) is header) in
    record {
      at = refl;
      begins = subst (λ (seen : Option (List ℕ)). IfSome seen (Begins [])) (sym c.read.ensures.seen) begins;
      ahead = nothing (D.seen c.read.new.self) c.new.result c.new.ensures;
      rests = λ file left. c.read.ensures.seen ∙ c.sync.ensures.seen ∙ c.in_ok-sync.ensures.durable file (c.read.ensures.image file left);
    }
