use Rattle.std.proofs.Common.{sym, ◌∙◌}
use Rattle.zone_shelf.proofs.PlaceLaws.{ready_seen, kept_now}
use Rattle.zone_shelf.proofs.shelf.ZoneShelf.add.Goals as goal

pub keep_at-requires : goal.keep_at-requires
keep_at-requires c = sym (ready_seen c.self.inside.places c.args.self.now c.self.view_is c.args.name c.args.bytes) ∙ c.requires

pub returns : goal.returns
returns c =
    let kept = c.keep_at.ensures in
    kept_now c.self.inside.places c.keep_at.new.places c.args.name kept.0 kept.2 c.args.self.now c.args.bytes c.self.view_is kept.1
