use Rattle.std.proofs.Common.{◌≡◌, map, take}
use Rattle.httparse.specs.Spans.{header_bytes}
use Rattle.http_wire.specs.Framing.{values_in}
use Rattle.http_wire.proofs.framing.header_values.values_of.Given as goal

-- the values so far are those of the headers so far
abbrev pub invariant-loop-header : goal.invariant-loop-header
invariant-loop-header l =
    l.values ≡ values_in l.name (map (header_bytes l.head) (take l.header-index l.headers))
