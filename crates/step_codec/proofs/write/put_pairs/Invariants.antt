use Rattle.std.proofs.Common.{◌≡◌, ◌≤◌, ◌+◌, ◌*◌, ◌++◌, take}
use Rattle.step_codec.specs.Cells.{spelled}
use Rattle.step_codec.specs.Payload.{pair_cells}
use Rattle.step_codec.proofs.write.put_pairs.Given as goal

abbrev pub invariant-loop-pair : goal.invariant-loop-pair
invariant-loop-pair l = record {
  bytes : l.into.bytes ≡ l.fn.into.bytes ++ spelled (pair_cells (take l.pair-index l.pairs));
  room : l.fn.into.room ≤ l.into.room + 12 * l.pair-index;
}
