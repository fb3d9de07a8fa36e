use Rattle.std.proofs.Common.{refl, sym, ap, subst, Option, None, Some}
use Rattle.sched_plain.specs.Tokens.{Kept}
use Rattle.token_shelf.specs.Answers.{IsAnswer}
use Rattle.token_shelf.specs.Shelves.{Shelved}
use Rattle.token_shelf.proofs.Shelves.{looked}
use Rattle.token_shelf.proofs.shelf.Shelf.look.Goals as goal

pub returns-in-None-clause-answer : goal.returns-in-None-clause-answer
returns-in-None-clause-answer c =
    looked c.self.inside.writes.pairs c.args.self.now c.args.token.now None (ap (λ (s : Shelved). s.kept) c.self.view_is) c.in-None.ensures.none c.args.self.now.kept (λ q. refl)

pub returns-in-None-clause-stands : goal.returns-in-None-clause-stands
returns-in-None-clause-stands c kept keeps =
    looked c.self.inside.writes.pairs c.args.self.now c.args.token.now None (ap (λ (s : Shelved). s.kept) c.self.view_is) c.in-None.ensures.none kept keeps

pub returns-in-Some-clause-answer : goal.returns-in-Some-clause-answer
returns-in-Some-clause-answer c =
    subst (λ (found : Option Kept). IsAnswer c.answer_of.result found c.args.write.now)
    (sym (looked c.self.inside.writes.pairs c.args.self.now c.args.token.now (Some c.in-Some.kept.now) (ap (λ (s : Shelved). s.kept) c.self.view_is) c.in-Some.ensures.some c.args.self.now.kept (λ q. refl)))
    c.answer_of.ensures

pub returns-in-Some-clause-stands : goal.returns-in-Some-clause-stands
returns-in-Some-clause-stands c kept keeps =
    subst (λ (found : Option Kept). IsAnswer c.answer_of.result found c.args.write.now)
    (sym (looked c.self.inside.writes.pairs c.args.self.now c.args.token.now (Some c.in-Some.kept.now) (ap (λ (s : Shelved). s.kept) c.self.view_is) c.in-Some.ensures.some kept keeps))
    c.answer_of.ensures
