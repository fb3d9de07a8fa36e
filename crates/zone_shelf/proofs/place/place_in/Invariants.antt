use Rattle.std.proofs.Common.{◌≡◌, drop}
use Rattle.zone_shelf.specs.Places.{is_among}
use Rattle.zone_shelf.proofs.place.place_in.Given as goal

-- what is left has the answer
abbrev pub invariant-loop-at : goal.invariant-loop-at
invariant-loop-at l = is_among l.bytes (drop l.at l.zones) ≡ is_among l.bytes l.zones
