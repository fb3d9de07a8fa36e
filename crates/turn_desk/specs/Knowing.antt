-- What a seat knows of a desk's value, and how its turns, a split and a join change it.
use Rattle.std.specs.Prelude.{◌≡◌, ℕ, ◌+◌, ◌≤◌, List, [], ◌∷◌, ◌++◌, length, drop, max, Some, slice_get, nat_lt, nat_le, if◌then◌else◌}
use Rattle.std.specs.List.{All}
use mathlib.Core.List.{IsPrefix}
use Rattle.turn_desk.specs.declared.known.Gauge.{Gauge}
use Rattle.turn_desk.specs.declared.known.Reading.{Reading}
use Rattle.turn_desk.specs.declared.known.TurnTaken.{TurnTaken}
use Rattle.turn_desk.specs.declared.known.Known.{Known}

-- the entries with their places, the first of them at `place`
abbrev pub numbered : {E : Type 0} → ℕ → List E → List (ℕ × E)
numbered place [] = []
numbered place (e ∷ es) = (place, e) ∷ numbered (place + 1) es

-- the entries behind the first n, with their places
abbrev pub added : {E : Type 0} → ℕ → List E → List (ℕ × E)
added n entries = numbered n (drop n entries)

-- each entry is at its place in the list
abbrev pub AllAtPlace : {E : Type 0} → List E → List (ℕ × E) → Type 0
AllAtPlace {E} entries own = All (λ (p : ℕ × E). slice_get entries p.0 ≡ Some p.1) own

-- the places rise from `least` on, so that none stands twice
abbrev pub RisesFrom : {E : Type 0} → ℕ → List (ℕ × E) → Type 0
RisesFrom least [] = Unit {0}
RisesFrom least (p ∷ own) = (least ≤ p.0) × RisesFrom (p.0 + 1) own

-- an entry put in where its place is
abbrev pub put_in : {E : Type 0} → ℕ × E → List (ℕ × E) → List (ℕ × E)
put_in p [] = p ∷ []
put_in p (q ∷ own) = if nat_lt p.0 q.0 then p ∷ (q ∷ own) else q ∷ put_in p own

-- both lists, in the order of their places
abbrev pub by_place : {E : Type 0} → List (ℕ × E) → List (ℕ × E) → List (ℕ × E)
by_place [] other = other
by_place (p ∷ own) other = put_in p (by_place own other)

-- the longer of two lists
abbrev pub longer : {E : Type 0} → List E → List E → List E
longer xs ys = if nat_le (length xs) (length ys) then ys else xs

-- what the first seat of a desk knows: the value, and no turn of its own
abbrev pub knows_value : {E : Type 0} → List E → Gauge → Known E
knows_value entries gauge = record { seen = entries; faults = gauge.faults; limit = gauge.limit; own = []; turns = [] }

-- what a seat that is split off knows: as much, and no turn of its own
abbrev pub newcomer : {E : Type 0} → Known E → Known E
newcomer k = record { seen = k.seen; faults = k.faults; limit = k.limit; own = []; turns = [] }

-- what two seats know together
abbrev pub together : {E : Type 0} → Known E → Known E → Known E
together k l = record { seen = longer k.seen l.seen; faults = max k.faults l.faults; limit = k.limit; own = by_place k.own l.own; turns = k.turns ++ l.turns }

-- a turn that found `found` and left a list of so many entries with this gauge
abbrev pub turn_of : {E : Type 0} → Reading E → ℕ → Gauge → TurnTaken
turn_of found count gauge = record { from = length found.entries; before = found.gauge; to = count; after = gauge }

-- what a seat knows after a turn of its own that found `found` and left these entries and this gauge
abbrev pub after_turn : {E : Type 0} → Known E → Reading E → List E → Gauge → Known E
after_turn k found entries gauge = record {
  seen = entries;
  faults = gauge.faults;
  limit = k.limit;
  own = k.own ++ added (length found.entries) entries;
  turns = k.turns ++ turn_of found (length entries) gauge ∷ [];
}

-- a value goes on from what is known: its list begins with what was seen, the entries of own turns are at their places, no fault is forgotten, and the limit is the same
pub record GoesOn {E : Type 0} (k : Known E) (entries : List E) (gauge : Gauge) : Type 0 where
  pub seen : IsPrefix k.seen entries
  pub own : AllAtPlace entries k.own
  pub faults : k.faults ≤ gauge.faults
  pub limit : gauge.limit ≡ k.limit

-- the turn of a seat that knows k, which found `found`, may leave these entries and this gauge: entries were added at most, no fault is forgotten, and the limit is the same
pub record MayLeave {E : Type 0} (k : Known E) (found : Reading E) (entries : List E) (gauge : Gauge) : Type 0 where
  pub grown : IsPrefix found.entries entries
  pub faults : found.gauge.faults ≤ gauge.faults
  pub limit : gauge.limit ≡ k.limit

-- two seats of one desk know parts of one history: of what they saw the shorter begins the longer, and no entry is of both
pub record AreOfOne {E : Type 0} (k l : Known E) : Type 0 where
  pub first : IsPrefix k.seen (longer k.seen l.seen)
  pub second : IsPrefix l.seen (longer k.seen l.seen)
  pub own : RisesFrom 0 (by_place k.own l.own)
  pub limit : l.limit ≡ k.limit
