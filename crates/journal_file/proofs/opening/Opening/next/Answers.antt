use Rattle.std.proofs.Common.{◌≡◌, List, ℕ, length, refl, sym, ◌∙◌, ap, subst, Option, IfSome}
use Rattle.journal_file.specs.Format.{front, Holds}
use Rattle.journal_file.specs.Journals.{OpeningText, IsPiece}
use Rattle.journal_file.proofs.OpenLemmas.{closed_shown}
use Rattle.journal_file.proofs.opening.Opening.next.Goals as goal

pub returns-in-Closed-clause-closed : goal.returns-in-Closed-clause-closed
returns-in-Closed-clause-closed g c is payloads passed =
    let D = g.D.Disk in
    let ends : c.self.inside.at ≡ length (front payloads) = ap (λ (o : OpeningText). o.at) c.self.view_is ∙ passed.at in
    let there : IfSome (D.seen c.args.disk.now) (IsPiece c.self.inside.ahead) =
    subst (λ (o : OpeningText). IfSome (D.seen c.args.disk.now) (IsPiece o.ahead)) (sym c.self.view_is) passed.ahead in
    let holds : IfSome (D.seen c.args.disk.now) (Holds payloads) =
    closed_shown (D.seen c.args.disk.now) c.self.inside.ahead c.look.new.self payloads c.part.result.now c.self.inside.at ends passed.begins there
    c.look.ensures.piece c.part.ensures.piece (c.read_head.ensures.closed c.in-Closed.is) in
    record {
      sound = refl;
      end = ends;
      shows = record {
        read = subst (λ (seen : Option (List ℕ)). IfSome seen (Holds payloads)) (sym c.look.ensures.only_read.gives) holds;
        images = λ file left. rw (passed.rests file (c.look.ensures.only_read.leaves file left)) at holds;
      };
    }
