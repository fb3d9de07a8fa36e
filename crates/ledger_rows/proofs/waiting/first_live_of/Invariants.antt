use Rattle.std.proofs.Common.{take}
use Rattle.ledger_rows.specs.Wanting.{IsFirstOf}
use Rattle.ledger_rows.proofs.FlightLemmas.{seen_waited}
use Rattle.ledger_rows.proofs.waiting.first_live_of.Given as goal

-- the first of those that were looked at
abbrev pub invariant-loop-flight : goal.invariant-loop-flight
invariant-loop-flight l = IsFirstOf (seen_waited l.lanes (take l.flight-index l.flights)) l.shard l.first
