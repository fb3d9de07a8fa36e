-- How many bytes the payload of a valid step has.
use Rattle.std.proofs.Common.{ℕ, ◌+◌, ◌*◌, ◌≤◌, List, [], ◌∷◌, length, Some, None, arith, length-append, lit≤}
use Rattle.sched_plain.specs.declared.schedule.Schedule.{Schedule}
use Rattle.sched_plain.specs.declared.write.Write.{Write}
use Rattle.sched_plain.specs.declared.write.Write.TheVariants as writes
use Rattle.sched_plain.specs.declared.step.Pair.{Pair}
use Rattle.sched_plain.specs.declared.step.Step.{Step}
use Rattle.sched_plain.specs.declared.step.Step.TheVariants as steps
use Rattle.sched_plain.specs.Validity.{IsContent, IsWrite, IsValid}
use Rattle.step_codec.specs.Cells.{Size, One, Two, Four, Eight, big_endian, Cell, Number, Words, Date, spell, spelled}
use Rattle.step_codec.specs.Payload.{cells, content_cells, pair_cells, payload_of, write_cells}
use Rattle.step_codec.proofs.Widths.{length-big_endian, bytes_of}
use Rattle.step_codec.proofs.RuleLaws.{content_room, name_fits, token_fits, zone_name_fits}

-- how many bytes a cell has at most
abbrev room_of : Cell → ℕ
room_of (Number size n) = 8
room_of (Words size text) = 8 + length text
room_of (Date o) = 9

abbrev rooms_of : List Cell → ℕ
rooms_of [] = 0
rooms_of (cell ∷ more) = room_of cell + rooms_of more

few : (size : Size) → bytes_of size ≤ 8
few One = lit≤ tt
few Two = lit≤ tt
few Four = lit≤ tt
few Eight = lit≤ tt

cell_room : (cell : Cell) → length (spell cell) ≤ room_of cell
cell_room (Number size n) = omega (arith, length-big_endian size n, few size)
cell_room (Words size text) = omega (arith, length-append (big_endian size (length text)) text, length-big_endian size (length text), few size)
cell_room (Date None) = omega arith
cell_room (Date (Some n)) = omega arith

row_room : (row : List Cell) → length (spelled row) ≤ rooms_of row
row_room [] = omega arith
row_room (cell ∷ more) = omega (arith, cell_room cell, row_room more, length-append (spell cell) (spelled more))

pairs_room : (pairs : List Pair) → rooms_of (pair_cells pairs) ≤ 16 * length pairs
pairs_room [] = omega arith
pairs_room (p ∷ more) = omega (arith, pairs_room more)

content_rooms : (c : Schedule) → IsContent c → rooms_of (content_cells c) ≤ 100000
content_rooms c v = let h = content_room c v in
    omega (arith, h.description, h.text, h.zone, h.target, h.role, h.queue, h.input)

write_rooms : (w : Write) → IsWrite w → rooms_of (write_cells w) ≤ 110000
write_rooms (writes.CreateSchedule group name token content) v =
    omega (arith, (name_fits group v.0).1, (name_fits name v.1).1, (token_fits token v.2).1, content_rooms content v.3)
write_rooms (writes.UpdateSchedule group name token content) v =
    omega (arith, (name_fits group v.0).1, (name_fits name v.1).1, (token_fits token v.2).1, content_rooms content v.3)
write_rooms (writes.DeleteSchedule group name token) v =
    omega (arith, (name_fits group v.0).1, (name_fits name v.1).1, (token_fits token v.2).1)
write_rooms (writes.CreateGroup name token) v = omega (arith, (name_fits name v.0).1, (token_fits token v.1).1)
write_rooms (writes.DeleteGroup name token) v = omega (arith, (name_fits name v.0).1, (token_fits token v.1).1)

step_rooms : (s : Step) → IsValid s → rooms_of (cells s) ≤ 131072
step_rooms (steps.Boot at) v = lit≤ tt
step_rooms (steps.Zone at name bytes) v = omega (arith, (zone_name_fits name v.1).1, v.2)
step_rooms (steps.Change at write) v = omega (arith, write_rooms write v.1)
step_rooms (steps.Enter at inc pairs) v = omega (arith, pairs_room pairs, v.3)
step_rooms (steps.Lease at shard worker epoch until) v = lit≤ tt
step_rooms (steps.Release at shard worker epoch) v = lit≤ tt
step_rooms (steps.Begin at inc instant number epoch) v = lit≤ tt
step_rooms (steps.End at inc instant number verdict status) v = lit≤ tt
step_rooms (steps.Close at inc instant reason) v = lit≤ tt
step_rooms (steps.Complete at inc) v = lit≤ tt
step_rooms (steps.Swept at shard) v = lit≤ tt

pub cells_short : (s : Step) → IsValid s → length (spelled (cells s)) ≤ 131072
cells_short s v = omega (arith, row_room (cells s), step_rooms s v)

pub cells_some : (s : Step) → 1 ≤ length (spelled (cells s))
cells_some (steps.Boot at) = omega arith
cells_some (steps.Zone at name bytes) = omega arith
cells_some (steps.Change at write) = omega arith
cells_some (steps.Enter at inc pairs) = omega arith
cells_some (steps.Lease at shard worker epoch until) = omega arith
cells_some (steps.Release at shard worker epoch) = omega arith
cells_some (steps.Begin at inc instant number epoch) = omega arith
cells_some (steps.End at inc instant number verdict status) = omega arith
cells_some (steps.Close at inc instant reason) = omega arith
cells_some (steps.Complete at inc) = omega arith
cells_some (steps.Swept at shard) = omega arith

pub payload_short : (s : Step) → IsValid s → length (payload_of s) ≤ 131072
unfolding payload_of
payload_short s v = cells_short s v

pub payload_some : (s : Step) → 1 ≤ length (payload_of s)
unfolding payload_of
payload_some s = cells_some s
