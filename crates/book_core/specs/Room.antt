-- For which step a book has room, so that it is taken without memory.
use Rattle.std.specs.Prelude.{◌≡◌, ℕ, ◌+◌, ◌≤◌, ◌<◌, ◌^◌, Option, List, length}
use Rattle.sched_plain.specs.declared.step.Step.{Step}
use Rattle.sched_plain.specs.declared.step.Step.TheVariants as steps
use Rattle.sched_plain.specs.declared.write.Write.{Write}
use Rattle.sched_rows.specs.State.{HasRoom as HasRowRoom}
use Rattle.ledger_rows.specs.State.{HasEnterRoom, HasBeginRoom, IsSame}
use Rattle.sched_plain.specs.Tokens.{kept_under}
use Rattle.dead_letters.specs.Piles.{letters_in, room_in}
use Rattle.zone_shelf.specs.Places.{HasRoom as HasZoneRoom, bytes_in}
use Rattle.book_parts.specs.Told.{Told}
use Rattle.book_writes.specs.Keeping.{Keeper, keeper_of}
use Rattle.book_entries.specs.LetterRoom.{HasLetterRoom}
use Rattle.step_needs.specs.Writes.{HasDatePlaces, HasTokenPlace}

-- the steps of a book with its attempts in the air, each of which is a step to come
abbrev pub weight : Told → ℕ
weight b = b.steps + length b.ledger.flights

-- so many that one more step, and the End of the attempt that it may begin, can be counted
abbrev pub IsLight : Told → Type 0
IsLight b = weight b < 2 ^ 62

-- room for what a write makes, with its token and a copy of it at hand
pub record HasWriteRoom (b : Told) (spare : Option Keeper) (write : Write) : Type 0 where
  pub rows : HasRowRoom b.rows write
  pub dates : HasDatePlaces write b.next.room b.finished.room
  pub token : spare ≡ keeper_of write
  pub shelf : HasTokenPlace b.shelf (keeper_of write)

-- room for the attempt of an occurrence, and for the letter that it may make
abbrev pub HasAttemptRoom : Told → ℕ → ℕ → Type 0
HasAttemptRoom b inc instant = HasBeginRoom b.ledger inc instant × HasLetterRoom b inc instant

-- room for what a kind of step adds. An End adds nothing that its Begin had no room for
abbrev pub HasKindRoom : Told → Option Keeper → Step → Type 0
HasKindRoom b spare (steps.Zone at name bytes) = HasZoneRoom b.zones name bytes
HasKindRoom b spare (steps.Change at write) = HasWriteRoom b spare write
HasKindRoom b spare (steps.Enter at inc pairs) = HasEnterRoom b.ledger inc (length pairs)
HasKindRoom b spare (steps.Begin at inc instant number epoch) = HasAttemptRoom b inc instant
HasKindRoom b spare (steps.Close at inc instant reason) = HasLetterRoom b inc instant
HasKindRoom b spare s = Unit {0}

-- room for a step
abbrev pub HasRoom : Told → Option Keeper → Step → Type 0
HasRoom b spare (steps.End at inc instant number verdict status) = Unit {0}
HasRoom b spare s = IsLight b × HasKindRoom b spare s

-- other parts know the same, and have no less room for letters
pub record IsRoomier (old new : Told) : Type 0 where
  pub moment : new.moment ≡ old.moment
  pub steps : new.steps ≡ old.steps
  pub swept : new.swept ≡ old.swept
  pub holders : new.holders ≡ old.holders
  pub zones : (name : List ℕ) → bytes_in new.zones name ≡ bytes_in old.zones name
  pub rows : new.rows.rows ≡ old.rows.rows
  pub groups : new.rows.groups ≡ old.rows.groups
  pub latest : new.rows.latest ≡ old.rows.latest
  pub ledger : IsSame old.ledger new.ledger
  pub shelf : (token : List ℕ) → kept_under new.shelf.kept token ≡ kept_under old.shelf.kept token
  pub letters : (queue : List ℕ) → letters_in new.letters queue ≡ letters_in old.letters queue
  pub room : (queue : List ℕ) → room_in old.letters queue ≤ room_in new.letters queue
  pub next : new.next.dates ≡ old.next.dates
  pub finished : new.finished.dates ≡ old.finished.dates
