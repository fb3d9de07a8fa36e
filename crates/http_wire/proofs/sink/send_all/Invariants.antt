use Rattle.std.proofs.Common.{length, ◌-◌, ◌≡◌, ◌≤◌, take}
use Rattle.http_wire.specs.Devices.{Gets}
use Rattle.http_wire.proofs.sink.send_all.Given as goal

-- the first `sent` bytes were taken, and no call failed
abbrev pub invariant-pieces : goal.invariant-pieces
invariant-pieces g l = record {
  within : l.sent ≤ length l.bytes;
  taken : Gets (g.K.Sink.got l.fn.sink) (take l.sent l.bytes) (g.K.Sink.got l.sink);
  quiet : g.K.Sink.faults l.sink ≡ g.K.Sink.faults l.fn.sink;
}

abbrev pub decreases-pieces : goal.decreases-pieces
decreases-pieces g l = length l.bytes - l.sent
