use Rattle.std.proofs.Common.{◌≡◌, ◌≤◌, ◌-◌, length}
use Rattle.std.specs.List.{All}
use Rattle.step_codec.specs.Format.{pairs_table}
use Rattle.step_codec.specs.Payload.{pair_cells}
use Rattle.step_codec.specs.Tables.{walk}
use Rattle.step_codec.proofs.Joining.{rows_in_front}
use Rattle.step_codec.proofs.enter.read_pairs.Given as goal

-- the pairs so far, and those that are left, are all of them
abbrev pub invariant-loop : goal.invariant-loop
invariant-loop l = record {
  read : rows_in_front (pair_cells l.pairs) (walk (pairs_table (l.count - l.counter)) l.rest) ≡ walk (pairs_table l.count) l.bytes;
  count : length l.pairs ≡ l.counter;
  exact : All (λ p. p.instant ≤ p.chosen) l.pairs;
}
