use Rattle.std.proofs.Common.{◌≡◌, ◌+◌, ◌-◌, ◌≤◌, length}
use Rattle.http_wire.specs.Devices.{Gives}
use Rattle.http_wire.proofs.framing.body.read_body.Given as goal

-- the bytes that were taken are those of the body so far
abbrev pub invariant-taking : goal.invariant-taking
invariant-taking g l = record {
  within : length l.body.items ≤ l.bytes;
  taken : Gives (g.S.Source.left l.fn.source) l.body.items (g.S.Source.left l.source);
  supply : g.S.Source.supply l.fn.source ≡ g.S.Source.supply l.source + length l.body.items;
  later : g.S.Source.faults l.fn.source ≤ g.S.Source.faults l.source;
}

abbrev pub decreases-taking : goal.decreases-taking
decreases-taking g l = l.bytes - length l.body.items
