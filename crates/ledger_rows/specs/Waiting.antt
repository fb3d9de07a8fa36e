-- The first occurrence whose attempt is waited for, found among the attempts in the air.
use Rattle.std.specs.Prelude.{ℕ, nat_lt, ◌==◌, Bool, ◌&&◌, ◌||◌, if◌then◌else◌, Option, Some, None, List}
use Rattle.plain_words.specs.Ids.{shard_of}
use Rattle.ledger_rows.specs.declared.question.Question.TheVariants as questions
use Rattle.ledger_rows.specs.declared.row.Flight.{Flight}
use Rattle.entry_lines.specs.Rows.{LaneRows}
use Rattle.ledger_rows.specs.State.{filed_in}
use Rattle.ledger_rows.specs.Wanting.{answers}

-- the entry of an occurrence is live
abbrev pub is_waited : List LaneRows → ℕ → ℕ → Bool
is_waited lanes inc instant = answers questions.ToWait (filed_in lanes inc instant)

-- the earlier of two occurrences, by incarnation and instant
abbrev pub earlier : Option (ℕ × ℕ) → Flight → ℕ × ℕ
earlier None flight = (flight.inc, flight.instant)
earlier (Some found) flight =
    if nat_lt flight.inc found.0 || (flight.inc == found.0 && nat_lt flight.instant found.1) then (flight.inc, flight.instant) else found

-- the first one so far, with one more attempt in the air looked at
abbrev pub first_with : List LaneRows → ℕ → Option (ℕ × ℕ) → Flight → Option (ℕ × ℕ)
first_with lanes shard first flight =
    if shard_of flight.inc == shard && is_waited lanes flight.inc flight.instant then Some (earlier first flight) else first
