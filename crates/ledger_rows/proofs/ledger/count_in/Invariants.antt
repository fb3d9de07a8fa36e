use Rattle.std.proofs.Common.{◌≡◌, ℕ, ◌≤◌, Option, List, take}
use Rattle.ledger_rows.specs.declared.row.Flight.{Flight}
use Rattle.ledger_rows.specs.Air.{live_in}
use Rattle.ledger_rows.proofs.ledger.count_in.Given as goal

-- those so far are counted
pub record Counting (shard : Option ℕ) (flights : List Flight) (index count : ℕ) : Type 0 where
  pub value : count ≡ live_in shard (take index flights)
  pub few : count ≤ index

abbrev pub invariant-loop-flight : goal.invariant-loop-flight
invariant-loop-flight l = Counting l.shard l.flights l.flight-index l.count
