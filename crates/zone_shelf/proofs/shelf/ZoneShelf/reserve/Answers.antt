use Rattle.std.proofs.Common.{◌≡◌, true, false, sym, ◌∙◌}
use Rattle.zone_shelf.proofs.PlaceLaws.{ready_seen, same_bytes, same_room, room_made}
use Rattle.zone_shelf.proofs.shelf.ZoneShelf.reserve.Goals as goal
use Rattle.zone_shelf.proofs.shelf.ZoneShelf.reserve.Goals.{in-Ok, in-Err}

pub returns-then-is_ready-clause-room : goal.returns-then-is_ready-clause-room
returns-then-is_ready-clause-room c =
    ready_seen c.self.inside.places c.args.self.now c.self.view_is c.args.name.now c.args.bytes.now ∙ sym c.is_ready.ensures.value ∙ c.if-is_ready.true

pub returns-in_err-read-clause-ready : goal.returns-in_err-read-clause-ready
returns-in_err-read-clause-ready c has =
    let no : false ≡ true = sym c.if-is_ready.false ∙ c.is_ready.ensures.value ∙ sym (ready_seen c.self.inside.places c.args.self.now c.self.view_is c.args.name.now c.args.bytes.now) ∙ has in
    absurd cc

pub returns-clause-same : goal.returns-clause-same
returns-clause-same c = same_bytes c.self.inside.places c.prepare.new.places c.args.self.now c.self.view_is c.prepare.ensures.prepared

pub returns-clause-room : goal.returns-clause-room
returns-clause-room c =
    elim c.match-prepare.branch [
      | in-Ok w ↦
          rw w.result-is (room_made c.prepare.new.places c.args.name.now c.in_ok-read.read c.args.bytes.now c.prepare.result w.in-Ok.field-0 w.in-Ok.is c.prepare.ensures.ready c.in_ok-read.ensures.ok)
      | in-Err w ↦ rw w.result-is tt
    ]

pub returns-clause-kept : goal.returns-clause-kept
returns-clause-kept c = same_room c.self.inside.places c.prepare.new.places c.args.self.now c.self.view_is c.prepare.ensures.prepared

pub returns-clause-ready : goal.returns-clause-ready
returns-clause-ready c has =
    let no : false ≡ true = sym c.if-is_ready.false ∙ c.is_ready.ensures.value ∙ sym (ready_seen c.self.inside.places c.args.self.now c.self.view_is c.args.name.now c.args.bytes.now) ∙ has in
    absurd cc
