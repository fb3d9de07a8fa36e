-- The attempts in the air: begun, and neither ended nor lost. That of a cancelled entry is one of them.
use Rattle.std.specs.Prelude.{ℕ, ◌==◌, Bool, not, ◌&&◌, Option, List, [], ◌∷◌, ◌++◌, length}
use Rattle.std.specs.List.{filter, list_any}
use Rattle.sched_plain.specs.Ledger.{LedgerCall, Begun, Finished, Lost, Missed}
use Rattle.sched_plain.specs.Entries.{is_lost_in}
use Rattle.ledger_rows.specs.declared.row.Flight.{Flight}

-- an attempt of an occurrence, by its number
abbrev pub flight_of : ℕ → ℕ → ℕ → Flight
flight_of inc instant number = record { inc = inc; instant = instant; number = number }

-- an attempt of this occurrence
abbrev pub is_of : ℕ → ℕ → Flight → Bool
is_of inc instant flight = inc == flight.inc && instant == flight.instant

-- the attempts of other occurrences; an occurrence has at most one in the air
abbrev pub but_for : ℕ → ℕ → List Flight → List Flight
but_for inc instant flights = filter {X = Flight} (λ flight. not (is_of inc instant flight)) flights

-- the attempts but for those of a shard, or for all where none is named
abbrev pub outside : Option ℕ → List Flight → List Flight
outside shard flights = filter {X = Flight} (λ flight. not (is_lost_in shard flight.inc)) flights

-- the attempts in the air after these calls, in the order of their begins
abbrev pub airborne : List LedgerCall → List Flight
airborne [] = []
airborne (Begun inc instant number epoch at ∷ before) = airborne before ++ record { inc = inc; instant = instant; number = number } ∷ []
airborne (Finished inc instant number verdict status at ∷ before) = but_for inc instant (airborne before)
airborne (Missed inc instant number at ∷ before) =
    filter {X = Flight} (λ flight. not (is_of inc instant flight && number == flight.number)) (airborne before)
airborne (Lost shard at ∷ before) = outside shard (airborne before)
airborne (call ∷ before) = airborne before

-- how many of them are of a shard, or of all where none is named
abbrev pub live_in : Option ℕ → List Flight → ℕ
live_in shard flights = length (filter {X = Flight} (λ flight. is_lost_in shard flight.inc) flights)

-- the attempt of an occurrence is in the air
abbrev pub is_flown : List Flight → ℕ → ℕ → Bool
is_flown flights inc instant = list_any (is_of inc instant) flights
