use Rattle.std.proofs.Common.{◌≡◌, ℕ, ◌&&◌, Option, List, length, take}
use Rattle.min_tree.specs.Numbers.{Numbers}
use Rattle.sched_plain.specs.Entries.{is_lost_in}
use Rattle.entry_lines.specs.Rows.{LaneRows}
use Rattle.ledger_rows.specs.declared.row.Flight.{Flight}
use Rattle.ledger_rows.specs.Air.{is_flown}
use Rattle.ledger_rows.specs.Shelves.{AreShelved}
use Rattle.ledger_rows.specs.State.{Loses}
use Rattle.ledger_rows.proofs.ledger.lose_in.Given as goal

-- the attempts of the flights so far are lost, and the rest is as it was
pub record Losing (initial now : List LaneRows) (trees : List Numbers) (flights : List Flight) (shard : Option ℕ) (at index : ℕ) : Type 0 where
  pub shelved : AreShelved now trees
  pub long : length now ≡ length initial
  pub loses : Loses initial now (λ i k. is_lost_in shard i && is_flown (take index flights) i k) at

abbrev pub invariant-loop-flight : goal.invariant-loop-flight
invariant-loop-flight l = Losing l.initial.lanes.items l.lanes.items l.shelves.items l.flights l.shard l.at.0 l.flight-index
