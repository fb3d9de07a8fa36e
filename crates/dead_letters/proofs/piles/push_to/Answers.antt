use Rattle.std.proofs.Common.{Option, Some, sym, ◌≡◌, subst, ◌≤◌, rules}
use Rattle.std.specs.BTreeMap.{get_by_text}
use Rattle.std.proofs.lemmas.Map.Text.{btree_map_updates_text}
use Rattle.dead_letters.specs.Piles.{Piled, room_on}
use Rattle.dead_letters.proofs.piles.push_to.Goals as goal

pub returns : goal.returns
returns c =
    let there : get_by_text c.args.piles.now c.args.queue.now ≡ Some c.in-Some.pile.now = sym (rw (← c.as_str.ensures) c.in-Some.ensures.value) in
    let updates = (c.get_mut.follows.holds c.push.new.self).3 (search rules) in
    let changed = btree_map_updates_text c.as_str.result.now c.args.piles.now (c.get_mut.follows.lender c.push.new.self) (Some c.push.new.self) updates in
    (c.in-Some.pile.now, c.push.new.self, there, record { letters = c.push.ensures.letters; room = c.push.ensures.room }, rw (← c.as_str.ensures) changed)

pub push-requires : goal.push-requires
push-requires c =
    let there : get_by_text c.args.piles.now c.args.queue.now ≡ Some c.in-Some.pile.now = sym (rw (← c.as_str.ensures) c.in-Some.ensures.value) in
    subst (λ (o : Option Piled). 1 ≤ room_on o) there c.requires
