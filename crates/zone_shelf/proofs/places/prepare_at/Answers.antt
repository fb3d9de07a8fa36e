use Rattle.std.proofs.Common.{◌≡◌, Some, sym, refl, rules}
use Rattle.std.specs.BTreeMap.{get_by_text}
use Rattle.std.proofs.lemmas.Map.Text.{btree_map_updates_text}
use Rattle.zone_shelf.specs.Shown.{Changes}
use Rattle.zone_shelf.proofs.PlaceLaws.{changed_here, prepared_by, ready_still, ready_now}
use Rattle.zone_shelf.proofs.places.prepare_at.Goals as goal
use Rattle.zone_shelf.proofs.places.prepare_at.Goals.{After-places-in-Some-1}

changes : (c : After-places-in-Some-1) → Changes c.args.places.now (c.get_mut.follows.lender c.prepare.new.self) c.args.name.now c.prepare.new.self
changes c =
    let updates = (c.get_mut.follows.holds c.prepare.new.self).3 (search rules) in
    let changed = btree_map_updates_text c.as_str.result.now c.args.places.now (c.get_mut.follows.lender c.prepare.new.self) (Some c.prepare.new.self) updates in
    rw (← c.as_str.ensures.value) changed

pub returns-clause-prepared : goal.returns-clause-prepared
returns-clause-prepared c =
    let there : get_by_text c.args.places.now c.args.name.now ≡ Some c.in-Some.place.now = sym (rw (← c.as_str.ensures.value) c.in-Some.ensures.value) in
    prepared_by c.args.places.now (c.get_mut.follows.lender c.prepare.new.self) c.args.name.now c.prepare.new.self (changes c) c.in-Some.place.now there c.prepare.ensures.kept
    (ready_still c.prepare.result c.args.read c.in-Some.place.now.ready c.prepare.new.self.ready c.prepare.ensures.ok c.prepare.ensures.err)

pub returns-clause-ready : goal.returns-clause-ready
returns-clause-ready c =
    ready_now c.prepare.result c.args.read c.in-Some.place.now.ready c.prepare.new.self.ready (get_by_text (c.get_mut.follows.lender c.prepare.new.self) c.args.name.now) c.prepare.new.self
    c.prepare.ensures.ok (changed_here c.args.places.now (c.get_mut.follows.lender c.prepare.new.self) c.args.name.now c.prepare.new.self (changes c)) refl
