-- What a Change that may follow finds in the parts of a book: all that is asked of the parts where it is taken, but for the
-- count of steps and the room. What is asked of the token and of the dates is a fact and a room at once: here stands the
-- fact, and that with the room it is what is asked.
use Rattle.std.specs.Prelude.{◌≡◌, ℕ, ◌<◌, ◌≤◌, Option, Some, None, length}
use Rattle.plain_words.specs.declared.moment.Moment.{Moment}
use Rattle.plain_words.specs.declared.limits.TheConstants.{LAST_MOMENT, MOST_INCARNATIONS}
use Rattle.sched_plain.specs.declared.step.Step.TheVariants as steps
use Rattle.sched_plain.specs.declared.write.Write.{Write}
use Rattle.sched_plain.specs.declared.write.Write.TheVariants as writes
use Rattle.sched_plain.specs.Groups.{row_fault}
use Rattle.sched_plain.specs.History.{History}
use Rattle.sched_plain.specs.Legal.{MayFollow}
use Rattle.sched_plain.specs.Tokens.{kept_under}
use Rattle.sched_plain.specs.Validity.{IsValid, IsWrite}
use Rattle.token_shelf.specs.Shelves.{Shelved}
use Rattle.book_parts.specs.Told.{Told}
use Rattle.book_parts.specs.Stands.{Stands, calendar}
use Rattle.book_writes.specs.Keeping.{Keeper, HasTokenRoom, keeper_of}
use Rattle.book_writes.specs.Redating.{HasDateRoom, HasZone}

-- the shelf has no such token
abbrev pub IsTokenNew : Shelved → Option Keeper → Type 0
IsTokenNew shelf None = Unit {0}
IsTokenNew shelf (Some keeper) = kept_under shelf.kept keeper.0 ≡ None

-- the shelf has a place for the token
abbrev pub HasTokenPlace : Shelved → Option Keeper → Type 0
HasTokenPlace shelf None = Unit {0}
HasTokenPlace shelf (Some keeper) = 1 ≤ shelf.room

-- a creation finds fewer incarnations than there may be
abbrev pub AreFew : Write → ℕ → Type 0
AreFew (writes.CreateSchedule group name token content) created = created < MOST_INCARNATIONS
AreFew write created = Unit {0}

-- a creation has a place for each of its dates
abbrev pub HasDatePlaces : Write → ℕ → ℕ → Type 0
HasDatePlaces (writes.CreateSchedule group name token content) next finished = (1 ≤ next) × (1 ≤ finished)
HasDatePlaces write next finished = Unit {0}

-- a Change: its write is within its limits and has no fault over the schedules and groups that are there, the zone of its
-- content is known, its token is new, and it may create what it creates
pub record ChangeFinds (b : Told) (at : Moment) (write : Write) : Type 0 where
  pub valid : IsWrite write
  pub moment : b.moment ≤ at.0
  pub last : at.0 ≤ LAST_MOMENT
  pub allowed : row_fault b.rows.rows b.rows.groups write ≡ None
  pub known : HasZone b.zones write
  pub token : IsTokenNew b.shelf (keeper_of write)
  pub dates : AreFew write (length b.rows.rows)

-- where the parts stand for a history that a valid Change may follow, it finds this
abbrev pub ChangesFind : Type 0
ChangesFind =
    (b : Told) (h : History) (at : Moment) (write : Write) → Stands b h → IsValid (steps.Change at write)
    → MayFollow calendar h (steps.Change at write) → ChangeFinds b at write

-- a new token with a place has the room that is asked for
abbrev pub TokensFit : Type 0
TokensFit = (shelf : Shelved) (keeper : Option Keeper) → IsTokenNew shelf keeper → HasTokenPlace shelf keeper → HasTokenRoom shelf keeper

-- so has what may be created, with places for its dates
abbrev pub DatesFit : Type 0
DatesFit =
    (write : Write) (created next finished : ℕ) → AreFew write created → HasDatePlaces write next finished
    → HasDateRoom write created next finished
