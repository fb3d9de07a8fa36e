-- The rule of a desk's table, and what each of its steps tells.
-- Word 0 is the next ticket, word 1 the ticket that is served, word 2 the length of the list. The slot has the value while nobody has the turn.
use Rattle.std.specs.Prelude.{◌≡◌, ◌≢◌, ◌⊎◌, ℕ, ◌^◌, ◌<◌, ◌≤◌, Bool, true, false, List, [], ◌∷◌, length, Option, Some, slice_get}
use Rattle.std.specs.List.{All}
use mathlib.Core.Option.{some}
use mathlib.Core.Option as maybe
use mathlib.Core.List.{IsPrefix}
use lib.ListN.{get_elem?}
use Rattle.atomic_table.specs.Table.{State, Me, Step}
use Rattle.turn_desk.specs.declared.known.Gauge.{Gauge}
use Rattle.turn_desk.specs.declared.known.Reading.{Reading}
use Rattle.turn_desk.specs.declared.known.Known.{Known}
use Rattle.turn_desk.specs.declared.known.View.{View}
use Rattle.turn_desk.specs.declared.known.View.TheVariants.{Free, Beside, Waits, Called, Took, Told, Returned, Gone}
use Rattle.turn_desk.specs.Knowing.{RisesFrom, after_turn, together, GoesOn, AreOfOne}

-- what the desk is as a whole: the list, its faults and limit, and whose turn added the entry at a place: a seat's own, or that of another which was put beside it
pub record Whole (E : Type 0) : Type 0 where
  pub entries : List E
  pub faults : ℕ
  pub limit : ℕ
  pub owner : ℕ → ℕ × Bool

-- the entry is in the list at its place, and of this owner
pub record IsOwn {E : Type 0} (all : Whole E) (by : ℕ × Bool) (p : ℕ × E) : Type 0 where
  pub there : slice_get all.entries p.0 ≡ Some p.1
  pub owned : all.owner p.0 ≡ by

-- what is known is a part of the whole
pub record IsPartOf {E : Type 0} (all : Whole E) (by : ℕ × Bool) (k : Known E) : Type 0 where
  pub seen : IsPrefix k.seen all.entries
  pub faults : k.faults ≤ all.faults
  pub limit : k.limit ≡ all.limit
  pub own : All (IsOwn all by) k.own
  pub rises : RisesFrom 0 k.own

-- which tickets were drawn, which one is served, and which seat drew each
pub record Line : Type 0 where
  pub next : ℕ
  pub served : ℕ
  pub holder : ℕ → ℕ

-- the ticket was drawn by this seat, and its turn is not over
pub record HasTicket (line : Line) (seat ticket : ℕ) : Type 0 where
  pub drawn : ticket < line.next
  pub due : line.served ≤ ticket
  pub held : line.holder ticket ≡ seat

-- the value was found so
pub record IsReadingOf {E : Type 0} (all : Whole E) (r : Reading E) : Type 0 where
  pub entries : r.entries ≡ all.entries
  pub faults : r.gauge.faults ≡ all.faults
  pub limit : r.gauge.limit ≡ all.limit

module _ {E : Type 0} (all : Whole E) (line : Line) (seat : ℕ) where
  -- what a view says is so
  abbrev pub Fits : View E → Type 0
  Fits (Free k) = IsPartOf all (seat, false) k
  Fits (Beside k l) = IsPartOf all (seat, false) k × IsPartOf all (seat, true) l
  Fits (Waits k t) = IsPartOf all (seat, false) k × HasTicket line seat t
  Fits (Called k t) = IsPartOf all (seat, false) k × HasTicket line seat t × (t ≡ line.served)
  Fits (Took k t r) = IsPartOf all (seat, false) k × HasTicket line seat t × (t ≡ line.served) × IsReadingOf all r
  Fits (Told k t) = IsPartOf all (seat, false) k × HasTicket line seat t × (t ≡ line.served) × (k.seen ≡ all.entries) × (k.faults ≡ all.faults)
  Fits (Returned k t) = IsPartOf all (seat, false) k × HasTicket line seat t × (t ≡ line.served)
  Fits Gone = Unit {0}

module _ {E : Type 0} where
  -- the seat has the value
  abbrev pub HasValue : View E → Type 0
  HasValue (Took k t r) = Unit {0}
  HasValue (Told k t) = Unit {0}
  HasValue _ = ⊥

  abbrev blank : Known E
  blank = record { seen = []; faults = 0; limit = 0; own = []; turns = [] }

  -- what a seat knows
  abbrev pub knowledge : View E → Known E
  knowledge (Free k) = k
  knowledge (Beside k l) = k
  knowledge (Waits k t) = k
  knowledge (Called k t) = k
  knowledge (Took k t r) = k
  knowledge (Told k t) = k
  knowledge (Returned k t) = k
  knowledge Gone = blank

  -- what another seat knew that was put beside
  abbrev pub other : View E → Known E
  other (Beside k l) = l
  other _ = blank

  -- the ticket of a turn
  abbrev pub ticket : View E → ℕ
  ticket (Waits k t) = t
  ticket (Called k t) = t
  ticket (Took k t r) = t
  ticket (Told k t) = t
  ticket (Returned k t) = t
  ticket _ = 0

  abbrev unread : Reading E
  unread = record { entries = []; gauge = record { faults = 0; limit = 0; moment = 0 } }

  -- the value as the turn found it
  abbrev pub found : View E → Reading E
  found (Took k t r) = r
  found _ = unread

module _ {T E : Type 0} (entries : T → List E) (gauge : T → Gauge) where
  -- the slot has this value, which is what the seats know of, and no seat has it
  pub record IsHome (all : Whole E) (homes : List (maybe.Option (Option T))) (views : List (View E)) : Type 0 where
    pub value : T
    pub home : homes ≡ some (Some value) ∷ []
    pub list : entries value ≡ all.entries
    pub faults : (gauge value).faults ≡ all.faults
    pub limit : (gauge value).limit ≡ all.limit
    pub alone : (seat : ℕ) (v : View E) → get_elem? views seat ≡ some v → HasValue v → ⊥

  -- a seat has the value
  pub record IsOut (homes : List (maybe.Option (Option T))) (views : List (View E)) : Type 0 where
    pub out : homes ≡ maybe.none ∷ []
    pub seat : ℕ
    pub view : View E
    pub there : get_elem? views seat ≡ some view
    pub has : HasValue view

  -- tickets are drawn and served in order, every view is so, and the value is in the slot or with a seat
  pub record Rule (s : State (Option T) (View E)) : Type 0 where
    pub all : Whole E
    pub line : Line
    pub words_are : s.words ≡ line.next ∷ line.served ∷ length all.entries ∷ []
    pub room : line.next ≤ 2 ^ 62
    pub order : line.served ≤ line.next
    pub fits : (seat : ℕ) (v : View E) → get_elem? s.views seat ≡ some v → Fits all line seat v
    pub value : IsHome all s.homes s.views ⊎ IsOut s.homes s.views

  abbrev Sat : Type 0
  Sat = Me (Option T) (View E)

  abbrev Tells : Type 1
  Tells = Step (Option T) → Sat → ℕ → Sat → Type 0

  -- draw: the ticket found is the seat's, where it was the one expected
  abbrev pub drew : Tells
  drew st m n m' = (n ≡ st.first → m' ≡ (Waits (knowledge m.0) n, [])) × (n ≢ st.first → m' ≡ m)

  -- look: the turn has come where the seat's ticket is served
  abbrev pub looked : Tells
  looked st m n m' = (n ≡ ticket m.0 → m' ≡ (Called (knowledge m.0) (ticket m.0), [])) × (n ≢ ticket m.0 → m' ≡ m)

  -- the value as a turn finds it
  abbrev pub reading : T → Reading E
  reading x = record { entries = entries x; gauge = gauge x }

  -- take: the value leaves the slot, and goes on from what the seat knows
  abbrev pub took : Tells
  took st m n m' = (x : T) × GoesOn (knowledge m.0) (entries x) (gauge x) × (m' ≡ (Took (knowledge m.0) (ticket m.0) (reading x), (0, Some x) ∷ []))

  -- tally: the seat knows the value that it has in hand
  abbrev pub told : Tells
  told st m n m' = (x : T) → m.1 ≡ (0, Some x) ∷ [] → m' ≡ (Told (after_turn (knowledge m.0) (found m.0) (entries x) (gauge x)) (ticket m.0), m.1)

  -- return: the value is back in the slot
  abbrev pub gave : Tells
  gave st m n m' = m' ≡ (Returned (knowledge m.0) (ticket m.0), [])

  -- pass: the next ticket is served
  abbrev pub passed : Tells
  passed st m n m' = m' ≡ (Free (knowledge m.0), [])

  -- the second half of join: what two seats knew is compared
  abbrev pub compared : Tells
  compared st m n m' = AreOfOne (knowledge m.0) (other m.0) × (m' ≡ (Free (together (knowledge m.0) (other m.0)), []))
