use Rattle.std.proofs.Common.{◌≡◌, Some, ◌∙◌, rules}
use Rattle.std.specs.String.{string_bytes}
use Rattle.std.proofs.lemmas.Map.Text.{btree_map_updates_text}
use Rattle.zone_shelf.specs.Shown.{Changes}
use Rattle.zone_shelf.proofs.PlaceLaws.{changed_here, prepared_new}
use Rattle.zone_shelf.proofs.places.begin.Goals as goal
use Rattle.zone_shelf.proofs.places.begin.Goals.{Joined-branch-3}

changes : (c : Joined-branch-3) → Changes c.args.places.now c.insert.new.self c.args.name.now c.new.result
changes c =
    let name : string_bytes c.in_ok-text.text ≡ c.args.name.now = c.in_ok-text.ensures.ok ∙ c.as_str.ensures.value in
    let changed = btree_map_updates_text (string_bytes c.in_ok-text.text) c.args.places.now c.insert.new.self (Some c.new.result) c.in_ok-insert.ensures.updates in
    rw (← name) changed

pub returns-clause-prepared : goal.returns-clause-prepared
returns-clause-prepared c = prepared_new c.args.places.now c.insert.new.self c.args.name.now c.new.result (changes c) c.requires c.new.ensures.kept

pub returns-clause-there : goal.returns-clause-there
returns-clause-there c = rw (changed_here c.args.places.now c.insert.new.self c.args.name.now c.new.result (changes c)) (search rules)
