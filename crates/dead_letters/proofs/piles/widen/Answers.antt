use Rattle.std.proofs.Common.{Some, sym, ◌≡◌, rules}
use Rattle.std.specs.BTreeMap.{get_by_text}
use Rattle.std.proofs.lemmas.Map.Text.{btree_map_updates_text}
use Rattle.dead_letters.proofs.PileLaws.{widened_by}
use Rattle.dead_letters.proofs.piles.widen.Goals as goal

pub returns-clause-widened : goal.returns-clause-widened
returns-clause-widened c =
    let there : get_by_text c.args.piles.now c.args.queue.now ≡ Some c.in-Some.pile.now = sym (rw (← c.as_str.ensures) c.in-Some.ensures.value) in
    let updates = (c.get_mut.follows.holds c.reserve.new.self).3 (search rules) in
    let changed = btree_map_updates_text c.as_str.result.now c.args.piles.now (c.get_mut.follows.lender c.reserve.new.self) (Some c.reserve.new.self) updates in
    widened_by c.args.piles.now (c.get_mut.follows.lender c.reserve.new.self) c.args.queue.now c.reserve.new.self (rw (← c.as_str.ensures) changed) c.in-Some.pile.now there
    (record { letters = c.reserve.ensures.letters; room = c.reserve.ensures.kept })
