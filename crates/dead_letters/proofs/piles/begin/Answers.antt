use Rattle.std.proofs.Common.{Some, ◌∙◌, ◌≡◌}
use Rattle.std.specs.String.{string_bytes}
use Rattle.std.proofs.lemmas.Map.Text.{btree_map_updates_text}
use Rattle.dead_letters.proofs.PileLaws.{widened_new}
use Rattle.dead_letters.proofs.piles.begin.Goals as goal

pub returns-clause-widened : goal.returns-clause-widened
returns-clause-widened c =
    let name : string_bytes c.in_ok-name.name ≡ c.args.queue.now = c.in_ok-name.ensures.ok ∙ c.as_str.ensures in
    let changed = btree_map_updates_text (string_bytes c.in_ok-name.name) c.args.piles.now c.insert.new.self (Some c.new.result) c.in_ok-insert.ensures.updates in
    widened_new c.args.piles.now c.insert.new.self c.args.queue.now c.new.result (rw (← name) changed) c.requires c.new.ensures
