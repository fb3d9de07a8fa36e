-- A book stays sound: some history has brought it about, and its steps and attempts can be counted.
use Rattle.std.proofs.Common.{◌≡◌, ℕ, ◌+◌, ◌≤◌, List, ap, ap₂, arith, length}
use Rattle.std.specs.Prelude.{◌^◌, Option}
use Rattle.sched_plain.specs.declared.step.Step.{Step}
use Rattle.sched_plain.specs.declared.step.Step.TheVariants as steps
use Rattle.sched_plain.specs.History.{History, ◌upon◌}
use Rattle.sched_plain.specs.Legal.{MayFollow}
use Rattle.sched_plain.specs.Validity.{IsValid}
use Rattle.ledger_rows.specs.declared.row.Flight.{Flight}
use Rattle.live_attempts.specs.CountLaws.{EndsPay, StepsAddTwo, count_with_ends}
use Rattle.book_parts.specs.Told.{Told}
use Rattle.book_parts.specs.Stands.{Stands as PartsStand, Takes, calendar}
use Rattle.book_writes.specs.Keeping.{Keeper}
use Rattle.book_core.specs.Room.{HasRoom, IsLight, IsRoomier, weight}
use Rattle.book_core.specs.State.{IsSound, MayTake}
use Rattle.book_core.proofs.RoomLemmas.{onward}

-- the weight of a book is the steps of its history with the ends that they want
weight_is : (b : Told) (h : History) → PartsStand b h → weight b ≡ count_with_ends h
weight_is b h st = ap₂ (λ (n : ℕ) (flights : List Flight). n + length flights) st.steps st.ledger.air

-- where one more step and the End that it may want can be counted, they are
counted : StepsAddTwo → (b new : Told) (h : History) (s : Step) → IsLight b → PartsStand b h → PartsStand new (s upon h) → weight new ≤ 2 ^ 62 + 1
counted adds b new h s light st after =
    let old = weight_is b h st in
    let now = weight_is new (s upon h) after in
    let more = adds h s in
    omega (arith, light, old, now, more)

-- each kind of step is counted; an End takes the place that was wanted for it
light_after : StepsAddTwo → EndsPay → (b new : Told) (spare : Option Keeper) (h : History) (s : Step) → weight b ≤ 2 ^ 62 + 1 → HasRoom b spare s
    → PartsStand b h → MayFollow calendar h s → PartsStand new (s upon h) → weight new ≤ 2 ^ 62 + 1
light_after adds pays b new spare h (steps.Boot at) light room st may after = counted adds b new h (steps.Boot at) room.0 st after
light_after adds pays b new spare h (steps.Zone at name bytes) light room st may after = counted adds b new h (steps.Zone at name bytes) room.0 st after
light_after adds pays b new spare h (steps.Change at write) light room st may after = counted adds b new h (steps.Change at write) room.0 st after
light_after adds pays b new spare h (steps.Enter at inc pairs) light room st may after = counted adds b new h (steps.Enter at inc pairs) room.0 st after
light_after adds pays b new spare h (steps.Lease at shard worker epoch until) light room st may after =
    counted adds b new h (steps.Lease at shard worker epoch until) room.0 st after
light_after adds pays b new spare h (steps.Release at shard worker epoch) light room st may after =
    counted adds b new h (steps.Release at shard worker epoch) room.0 st after
light_after adds pays b new spare h (steps.Begin at inc instant number epoch) light room st may after =
    counted adds b new h (steps.Begin at inc instant number epoch) room.0 st after
light_after adds pays b new spare h (steps.End at inc instant number verdict status) light room st may after =
    let old = weight_is b h st in
    let now = weight_is new (steps.End at inc instant number verdict status upon h) after in
    let same = (pays calendar h at inc instant number verdict status st.legal may).same in
    omega (arith, light, old, now, same)
light_after adds pays b new spare h (steps.Close at inc instant reason) light room st may after =
    counted adds b new h (steps.Close at inc instant reason) room.0 st after
light_after adds pays b new spare h (steps.Complete at inc) light room st may after = counted adds b new h (steps.Complete at inc) room.0 st after
light_after adds pays b new spare h (steps.Swept at shard) light room st may after = counted adds b new h (steps.Swept at shard) room.0 st after

-- a step that is taken leaves the book sound
pub sound_after : StepsAddTwo → EndsPay → (b new : Told) (spare : Option Keeper) (s : Step) → IsSound b → IsValid s → MayTake b s → HasRoom b spare s
    → Takes b new s → IsSound new
sound_after adds pays b new spare s sound valid may room taken =
    let h = sound.stood.history in
    let st = sound.stood.stands in
    let after = taken h st.parts (may h st) in
    record {
      stood = record { history = s upon h; stands = record { parts = after; valid = (st.valid, valid) } };
      light = light_after adds pays b new spare h s sound.light room st.parts (may h st) after;
    }

-- so does room that is made
pub sound_with_room : {old new : Told} → IsRoomier old new → IsSound old → IsSound new
sound_with_room r sound =
    record {
      stood = record {
        history = sound.stood.history;
        stands = record { parts = onward r sound.stood.history sound.stood.stands.parts; valid = sound.stood.stands.valid };
      };
      light =
          let light = sound.light in
          let steps = r.steps in
          let air = ap (length {A = Flight}) r.ledger.air in
          omega (arith, light, steps, air);
    }
