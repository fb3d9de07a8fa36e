use Rattle.std.proofs.Common.{◌≡◌, ◌+◌, ◌<◌, ◌^◌, length}
use Rattle.http_wire.specs.Devices.{Gives}
use Rattle.http_wire.specs.Heads.{HasNoHead}
use Rattle.http_wire.proofs.framing.head.read_head.Given as goal

-- the bytes that were taken stand in `head`, and there is no head at their front
abbrev pub invariant-bytes : goal.invariant-bytes
invariant-bytes g l = record {
  none : HasNoHead l.head.items;
  taken : Gives (g.S.Source.left l.fn.source) l.head.items (g.S.Source.left l.source);
  count : length l.head.items ≡ l.counter;
  supply : g.S.Source.supply l.fn.source ≡ g.S.Source.supply l.source + length l.head.items;
  small : 0 < length l.head.items → g.S.Source.supply l.fn.source < 2 ^ 64;
  quiet : g.S.Source.faults l.source ≡ g.S.Source.faults l.fn.source;
}
