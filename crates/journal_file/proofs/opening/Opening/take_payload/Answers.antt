use Rattle.std.proofs.Common.{◌≡◌, List, ℕ, true, false, Ok, [], ◌∷◌, ◌++◌, length, drop, sym, ◌∙◌, ap, subst, arith, rules, Option, IfSome}
use Rattle.journal_file.specs.Ahead.{part_of}
use Rattle.journal_file.specs.Format.{front, Begins, IsBad, RecordHead}
use Rattle.journal_file.specs.Journals.{OpeningText, IsPiece}
use Rattle.journal_file.proofs.FormatLemmas.{length-front_more}
use Rattle.journal_file.proofs.OpenLemmas.{cut_shown, record_shown}
use Rattle.journal_file.proofs.opening.Opening.take_payload.Goals as goal

pub returns-then-not-branch-clause-bad : goal.returns-then-not-branch-clause-bad
returns-then-not-branch-clause-bad g c gate is payloads passed =
    let D = g.D.Disk in
    let place : c.self.inside.at ≡ gate = cc in
    let answer : c.fetch.result ≡ Ok false = search rules in
    let there : IfSome (D.seen c.args.disk.now) (IsPiece c.self.inside.ahead) =
    subst (λ (o : OpeningText). IfSome (D.seen c.args.disk.now) (IsPiece o.ahead)) (sym c.self.view_is) passed.ahead in
    let head : RecordHead c.args.len (part_of c.self.inside.ahead c.self.inside.at) =
    subst (λ (o : OpeningText). RecordHead c.args.len (part_of o.ahead o.at)) (sym c.self.view_is) c.requires.head in
    subst (λ (n : ℕ). IfSome (D.seen c.args.disk.now) (λ file. IsBad (drop n file))) place
    (cut_shown (D.seen c.args.disk.now) c.self.inside.ahead c.self.inside.at c.args.len there (c.fetch.ensures.cut answer) head)

pub returns-clause-passed : goal.returns-clause-passed
returns-clause-passed g c is payloads passed =
    let D = g.D.Disk in
    let ends : c.self.inside.at ≡ length (front payloads) = ap (λ (o : OpeningText). o.at) c.self.view_is ∙ passed.at in
    let answer : c.fetch.result ≡ Ok true = search rules in
    let whole = c.fetch.ensures.whole answer in
    let there : IfSome (D.seen c.args.disk.now) (IsPiece c.self.inside.ahead) =
    subst (λ (o : OpeningText). IfSome (D.seen c.args.disk.now) (IsPiece o.ahead)) (sym c.self.view_is) passed.ahead in
    let head : RecordHead c.args.len (part_of c.self.inside.ahead c.self.inside.at) =
    subst (λ (o : OpeningText). RecordHead c.args.len (part_of o.ahead o.at)) (sym c.self.view_is) c.requires.head in
    let begins : IfSome (D.seen c.args.disk.now) (Begins (payloads ++ c.fetch.new.into.items ∷ [])) =
    record_shown (D.seen c.args.disk.now) c.self.inside.ahead payloads c.fetch.new.into.items c.self.inside.at c.args.len ends passed.begins there (c.fetch.ensures.bytes answer) head whole.0 in
    record {
      at = omega (arith, ends, whole.0, length-front_more payloads c.fetch.new.into.items);
      begins = subst (λ (seen : Option (List ℕ)). IfSome seen (Begins (payloads ++ c.fetch.new.into.items ∷ []))) (sym c.fetch.ensures.only_read.gives) begins;
      ahead = subst (λ (seen : Option (List ℕ)). IfSome seen (IsPiece c.self.inside.ahead)) (sym c.fetch.ensures.only_read.gives) there;
      rests = λ file left. c.fetch.ensures.only_read.gives ∙ passed.rests file (c.fetch.ensures.only_read.leaves file left);
    }
