use Rattle.std.proofs.Common.{◌≡◌}
use Rattle.turn_desk.specs.Seats.{IsFree}
use Rattle.desk_times.proofs.turns.write_often.Given as goal

abbrev pub invariant-loop : goal.invariant-loop
invariant-loop g l = (l.seat.place.table_id ≡ l.desk.table.shared.table_id) × IsFree l.seat.place
