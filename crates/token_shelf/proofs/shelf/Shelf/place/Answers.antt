use Rattle.std.proofs.Common.{refl, sym, ap, Option, None, Some}
use Rattle.std.specs.Option.{option_map}
use Rattle.sched_plain.specs.Tokens.{Kept}
use Rattle.token_shelf.specs.Shelves.{Shelved}
use Rattle.token_shelf.proofs.Shelves.{looked}
use Rattle.token_shelf.proofs.shelf.Shelf.place.Goals as goal

pub returns-in-None-clause-place : goal.returns-in-None-clause-place
returns-in-None-clause-place c =
    ap (option_map {T = Kept} (λ k. k.place)) (sym (looked c.self.inside.writes.pairs c.args.self.now c.args.token.now None (ap (λ (s : Shelved). s.kept) c.self.view_is) c.in-None.ensures.none c.args.self.now.kept (λ q. refl)))

pub returns-in-None-clause-stands : goal.returns-in-None-clause-stands
returns-in-None-clause-stands c kept keeps =
    ap (option_map {T = Kept} (λ k. k.place)) (sym (looked c.self.inside.writes.pairs c.args.self.now c.args.token.now None (ap (λ (s : Shelved). s.kept) c.self.view_is) c.in-None.ensures.none kept keeps))

pub returns-in-Some-clause-place : goal.returns-in-Some-clause-place
returns-in-Some-clause-place c =
    ap (option_map {T = Kept} (λ k. k.place)) (sym (looked c.self.inside.writes.pairs c.args.self.now c.args.token.now (Some c.in-Some.kept.now) (ap (λ (s : Shelved). s.kept) c.self.view_is) c.in-Some.ensures.some c.args.self.now.kept (λ q. refl)))

pub returns-in-Some-clause-stands : goal.returns-in-Some-clause-stands
returns-in-Some-clause-stands c kept keeps =
    ap (option_map {T = Kept} (λ k. k.place)) (sym (looked c.self.inside.writes.pairs c.args.self.now c.args.token.now (Some c.in-Some.kept.now) (ap (λ (s : Shelved). s.kept) c.self.view_is) c.in-Some.ensures.some kept keeps))
