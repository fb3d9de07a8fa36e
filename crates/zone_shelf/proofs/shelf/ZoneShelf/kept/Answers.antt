use Rattle.std.proofs.Common.{◌≡◌, ℕ, List, Option, None, Some, IfSome, IfNone, sym, subst}
use Rattle.zone_shelf.proofs.PlaceLaws.{kept_seen}
use Rattle.zone_shelf.proofs.shelf.ZoneShelf.kept.Goals as goal

pub returns-in-Some-clause-some : goal.returns-in-Some-clause-some
returns-in-Some-clause-some c =
    let seen = kept_seen c.self.inside.places c.args.self.now c.self.view_is c.as_str.result.now c.args.name.now (Some c.in-Some.place.now) c.as_str.ensures.value c.in-Some.ensures.value in
    subst (λ (kept : Option (List ℕ)). IfSome c.kept.result (λ read. kept ≡ Some read.now)) seen c.kept.ensures.some

pub returns-in-Some-clause-none : goal.returns-in-Some-clause-none
returns-in-Some-clause-none c =
    let seen = kept_seen c.self.inside.places c.args.self.now c.self.view_is c.as_str.result.now c.args.name.now (Some c.in-Some.place.now) c.as_str.ensures.value c.in-Some.ensures.value in
    subst (λ (kept : Option (List ℕ)). IfNone c.kept.result (kept ≡ None)) seen c.kept.ensures.none

pub returns-in-None-clause-none : goal.returns-in-None-clause-none
returns-in-None-clause-none c =
    sym (kept_seen c.self.inside.places c.args.self.now c.self.view_is c.as_str.result.now c.args.name.now None c.as_str.ensures.value c.in-None.ensures.value)
