-- What holds of the parts of a book whatever they stand for: their numbers fit, and there is room for the letter of each
-- attempt in the air.
use Rattle.std.specs.Prelude.{◌≡◌, ℕ, ◌≤◌, Bool, List, length}
use Rattle.std.specs.List.{filter, Contains}
use Rattle.plain_words.specs.Lists.{same_text, some_pass}
use Rattle.plain_words.specs.Moments.{last_moment}
use Rattle.plain_words.specs.declared.limits.TheConstants.{MOST_INCARNATIONS}
use Rattle.sched_plain.specs.declared.row.Row.{Row}
use Rattle.sched_plain.specs.Rows.{content_at}
use Rattle.sched_plain.specs.Queues.{queue_of}
use Rattle.ledger_rows.specs.declared.row.Flight.{Flight}
use Rattle.dead_letters.specs.Piles.{room_in}
use Rattle.book_parts.specs.Contents.{HaveContents}
use Rattle.book_parts.specs.Told.{Told}

-- an attempt in the air may make a letter of a queue
abbrev pub may_post : List Row → List ℕ → Flight → Bool
may_post rows queue flight = some_pass (same_text queue) (queue_of (content_at rows flight.inc flight.instant))

-- how many of them may
abbrev pub owed : List Row → List Flight → List ℕ → ℕ
owed rows flights queue = length (filter {X = Flight} (may_post rows queue) flights)

-- each is of an incarnation that is there, and of an instant that has come
abbrev pub AreAloft : ℕ → ℕ → List Flight → Type 0
AreAloft created moment flights = (f : Flight) → Contains flights f → (f.inc ≤ created) × (f.instant ≤ moment)

-- the parts are sound
pub record IsSound (b : Told) : Type 0 where
  pub contents : HaveContents b.rows.rows
  pub few : length b.rows.rows ≤ MOST_INCARNATIONS
  pub scheduled : length b.next.dates ≡ length b.rows.rows
  pub completed : length b.finished.dates ≡ length b.rows.rows
  pub shards : length b.swept ≡ 8
  pub latest : b.rows.latest ≤ b.moment
  pub early : b.moment ≤ last_moment
  pub aloft : AreAloft (length b.rows.rows) b.moment b.ledger.flights
  pub letters : (queue : List ℕ) → owed b.rows.rows b.ledger.flights queue ≤ room_in b.letters queue
