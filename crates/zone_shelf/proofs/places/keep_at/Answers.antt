use Rattle.std.proofs.Common.{◌≡◌, true, Option, Some, sym, subst, rules}
use Rattle.std.specs.BTreeMap.{get_by_text}
use Rattle.std.proofs.lemmas.Map.Text.{btree_map_updates_text}
use Rattle.zone_shelf.specs.Places.{Placed, is_ready_on}
use Rattle.zone_shelf.proofs.places.keep_at.Goals as goal

pub keep-requires : goal.keep-requires
keep-requires c =
    let there : get_by_text c.args.places.now c.args.name.now ≡ Some c.in-Some.place.now = sym (rw (← c.as_str.ensures.value) c.in-Some.ensures.value) in
    subst (λ (o : Option Placed). is_ready_on c.args.bytes.now o ≡ true) there c.requires

pub returns : goal.returns
returns c =
    let updates = (c.get_mut.follows.holds c.keep.new.self).3 (search rules) in
    let changed = btree_map_updates_text c.as_str.result.now c.args.places.now (c.get_mut.follows.lender c.keep.new.self) (Some c.keep.new.self) updates in
    (c.keep.new.self, c.keep.ensures, rw (← c.as_str.ensures.value) changed)
