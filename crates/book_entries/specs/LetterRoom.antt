-- Room for the letters of attempts.
use Rattle.std.specs.Prelude.{◌≡◌, ℕ, ◌+◌, ◌≤◌, Option, Some, List}
use Rattle.sched_plain.specs.Rows.{content_at}
use Rattle.sched_plain.specs.Queues.{queue_of}
use Rattle.dead_letters.specs.Piles.{room_in}
use Rattle.book_parts.specs.Sound.{owed}
use Rattle.book_parts.specs.Told.{Told}

-- the queue that the content of an occurrence names
abbrev pub queue_at : Told → ℕ → ℕ → Option (List ℕ)
queue_at b inc instant = queue_of (content_at b.rows.rows inc instant)

-- there is room for the letter of one more attempt of an occurrence, beside those in the air
abbrev pub HasLetterRoom : Told → ℕ → ℕ → Type 0
HasLetterRoom b inc instant =
    (queue : List ℕ) → queue_at b inc instant ≡ Some queue → owed b.rows.rows b.ledger.flights queue + 1 ≤ room_in b.letters queue
