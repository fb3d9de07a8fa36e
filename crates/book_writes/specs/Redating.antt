-- What a write makes of the ledger and of the dates.
use Rattle.std.specs.Prelude.{◌≡◌, ◌<◌, ◌≤◌, ℕ, Option, None, List, length}
use Rattle.plain_words.specs.declared.limits.TheConstants.{MOST_INCARNATIONS}
use Rattle.sched_plain.specs.declared.row.Row.{Row}
use Rattle.sched_plain.specs.declared.schedule.Schedule.{Schedule}
use Rattle.sched_plain.specs.declared.write.Write.{Write}
use Rattle.sched_plain.specs.declared.write.Write.TheVariants as writes
use Rattle.sched_plain.specs.Ledger.{LedgerCall}
use Rattle.ledger_rows.specs.State.{State, Stands}
use Rattle.zone_shelf.specs.Places.{Places}
use Rattle.date_table.specs.Dates.{date_at}
use Rattle.book_writes.specs.Touching.{is_touched, SetsWhere}
use Rattle.book_writes.specs.Cancelling.{Cancels}
use Rattle.book_writes.specs.Dating.{IsBegun, IsRenewed, IsKnown, finished_now, kept_date}

-- the ledger with the next instants and the dates since when schedules are finished
pub record Dated : Type 0 where
  pub ledger : State
  pub next : List (Option ℕ)
  pub finished : List (Option ℕ)

-- a creation: one more of each date
pub record IsCreated (zones : Places) (at : ℕ) (content : Schedule) (old new : Dated) : Type 0 where
  pub ledger : new.ledger ≡ old.ledger
  pub dates : IsBegun zones content at old.next new.next old.finished new.finished

-- an update: the dates of what it touches are those of the content
pub record IsUpdated (zones : Places) (rows : List Row) (at : ℕ) (write : Write) (content : Schedule) (old new : Dated) : Type 0 where
  pub ledger : new.ledger ≡ old.ledger
  pub next : SetsWhere (is_touched rows write) (IsRenewed zones rows content at) old.next new.next
  pub long : length new.finished ≡ length old.finished
  pub finished : (calls : List LedgerCall) → Stands old.ledger calls
      → SetsWhere (is_touched rows write) (λ inc date. date ≡ kept_date (finished_now calls content inc (date_at new.next inc))) old.finished new.finished

-- a deletion: what it touches has no dates, and its entries are cancelled
pub record IsDeleted (rows : List Row) (write : Write) (old new : Dated) : Type 0 where
  pub calls : (calls : List LedgerCall) → Stands old.ledger calls → Cancels (is_touched rows write) new.ledger calls
  pub flights : new.ledger.flights ≡ old.ledger.flights
  pub next : SetsWhere (is_touched rows write) (λ inc date. date ≡ None) old.next new.next
  pub finished : SetsWhere (is_touched rows write) (λ inc date. date ≡ None) old.finished new.finished

-- each write does one of these; the creation of a group touches nothing
abbrev pub IsRedated : Places → List Row → ℕ → Write → Dated → Dated → Type 0
IsRedated zones rows at (writes.CreateSchedule group name token content) old new = IsCreated zones at content old new
IsRedated zones rows at (writes.UpdateSchedule group name token content) old new =
    IsUpdated zones rows at (writes.UpdateSchedule group name token content) content old new
IsRedated zones rows at write old new = IsDeleted rows write old new

-- the zone of what a write gives is known
abbrev pub HasZone : Places → Write → Type 0
HasZone zones (writes.CreateSchedule group name token content) = IsKnown zones content
HasZone zones (writes.UpdateSchedule group name token content) = IsKnown zones content
HasZone zones write = Unit {0}

-- a creation has room for its dates, and for one more incarnation
abbrev pub HasDateRoom : Write → ℕ → ℕ → ℕ → Type 0
HasDateRoom (writes.CreateSchedule group name token content) created next finished =
    (created < MOST_INCARNATIONS) × (1 ≤ next) × (1 ≤ finished)
HasDateRoom write created next finished = Unit {0}
