-- Where a seat stands.
use Rattle.std.specs.Prelude.{◌≡◌, ℕ, List, [], ◌∷◌, Option, Some, None}
use Rattle.atomic_table.specs.Seated.{TableId}
use Rattle.atomic_table.specs.declared.shared.Seat.{Seat}
use Rattle.turn_desk.specs.declared.known.Gauge.{Gauge}
use Rattle.turn_desk.specs.declared.known.Reading.{Reading}
use Rattle.turn_desk.specs.declared.known.Known.{Known}
use Rattle.turn_desk.specs.declared.known.View.{View}
use Rattle.turn_desk.specs.declared.known.View.TheVariants.{Free, Waits, Called, Took, Told, Returned}
use Rattle.turn_desk.specs.Turns.{knowledge, ticket, found}

-- a desk's table has three words and one slot
abbrev pub IsSized : TableId → Type 0
IsSized z = (z.words ≡ 3) × (z.slots ≡ 1)

module _ {T E : Type 0} where
  -- what a seat knows
  abbrev pub known : Seat (Option T) (View E) → Known E
  known s = knowledge s.me.0

  -- the value as the seat's turn found it
  abbrev pub found_by : Seat (Option T) (View E) → Reading E
  found_by s = found s.me.0

  -- the number of the seat's turn
  abbrev pub ticket_of : Seat (Option T) (View E) → ℕ
  ticket_of s = ticket s.me.0

  -- the seat has no turn that it has not left
  abbrev pub IsFree : Seat (Option T) (View E) → Type 0
  IsFree s = s.me ≡ (Free (known s), [])

  -- the seat knows k and waits for the turn t
  abbrev pub IsWaiting : Seat (Option T) (View E) → Known E → ℕ → Type 0
  IsWaiting s k t = s.me ≡ (Waits k t, [])

  -- the turn t of the seat, which knows k, has come
  abbrev pub IsCalled : Seat (Option T) (View E) → Known E → ℕ → Type 0
  IsCalled s k t = s.me ≡ (Called k t, [])

  -- the seat, which knows k, has a turn that found r, and the value was handed out
  abbrev pub IsInTurn : Seat (Option T) (View E) → Known E → Reading E → Type 0
  IsInTurn s k r = s.me ≡ (Took k (ticket_of s) r, (0, None) ∷ [])

  -- it is one seat of one table, before and after
  abbrev pub IsSameSeat : Seat (Option T) (View E) → Seat (Option T) (View E) → Type 0
  IsSameSeat s u = (u.table_id ≡ s.table_id) × (u.id ≡ s.id)

  -- the seat, which knows k, has in hand a value that k tells of
  abbrev pub IsTold : (T → List E) → (T → Gauge) → Seat (Option T) (View E) → Known E → Type 0
  IsTold entries gauge s k = (x : T) × (s.me ≡ (Told k (ticket_of s), (0, Some x) ∷ [])) × (entries x ≡ k.seen) × ((gauge x).faults ≡ k.faults) × ((gauge x).limit ≡ k.limit)

  -- the seat, which knows k, has given the value back
  abbrev pub IsReturned : Seat (Option T) (View E) → Known E → Type 0
  IsReturned s k = s.me ≡ (Returned k (ticket_of s), [])
