-- What serving a write does with the history that its keeper stands for.
use Rattle.std.specs.Prelude.{◌≡◌, ◌⊎◌, ℕ, Option, Some, None, Result, Err, List, []}
use Rattle.std.specs.Option.{option_map}
use Rattle.outside.specs.Faults.{Rose}
use Rattle.zone_occ.specs.declared.zone_files.NamedZone.{NamedZone}
use Rattle.zone_occ.specs.Files.{zone_named}
use Rattle.sched_plain.specs.declared.step.Step.{Step}
use Rattle.sched_plain.specs.declared.write.Write.{Write}
use Rattle.sched_plain.specs.History.{History}
use Rattle.sched_plain.specs.Legal.{MayFollow}
use Rattle.sched_calls.specs.declared.call.Call.{Call}
use Rattle.sched_calls.specs.declared.call.Call.TheVariants as calls
use Rattle.sched_calls.specs.declared.reply.Refusal.{Refusal}
use Rattle.sched_calls.specs.declared.reply.Reply.{Reply}
use Rattle.sched_calls.specs.Serves.{End, Finds, ZoneSource, ServesWrite, IsCutShort, needed_zone}
use Rattle.book_parts.specs.Stands.{calendar}
use Rattle.durable_book.specs.Doubts.{IsOwnDoubt}
use Rattle.durable_writes.specs.declared.write_fault.WriteFault.{WriteFault}
use Rattle.durable_writes.specs.declared.write_fault.WriteFault.TheVariants as faults
use Rattle.durable_writes.specs.Words.{Draws}

-- the bytes that zones have by their names, the first of a name
abbrev pub bytes_under : List NamedZone → ZoneSource
bytes_under zones name = option_map (λ zone. zone.bytes) (zone_named zones name)

-- the source answers what is told of the zones, where that is told
abbrev pub IsSource : Option (List NamedZone) → ZoneSource → Type 0
IsSource None source = Unit {0}
IsSource (Some zones) source = (name : List ℕ) → source name ≡ bytes_under zones name

-- the write was served whole upon the history that was found
pub record Writes (doubt : Option Step) (t : ℕ) (write : Write) (zones : Option (List NamedZone)) (told told' : Option (List ℕ)) (answer : Result Reply Refusal) (h after : History) : Type 0 where
  pub found : History
  pub finds : Finds h doubt found
  pub source : ZoneSource
  pub telling : IsSource zones source
  pub words : List ℕ
  pub served : ServesWrite calendar source t found write words after [] answer
  pub draws : Draws found after words [] told told'

-- a step that may follow has no room
abbrev pub IsFull : (Step → ℕ → ℕ → Type 0) → ℕ → ℕ → History → Type 0
IsFull full end need h = (s : Step) × MayFollow calendar h s × full s end need

-- of the steps that serving a call adds to a history a front was added, perhaps none, and never all
abbrev pub IsPart : ZoneSource → ℕ → History → List ℕ → List End → Call → History → Type 0
IsPart source t found words ends call after = (after ≡ found) ⊎ IsCutShort calendar source t found words ends call after

-- why a write is cut behind what it added: a step has no room; or its zone is wanted, and could not be read
abbrev pub IsCauseOfCut : (Step → ℕ → ℕ → Type 0) → Write → WriteFault → History → Type 0
IsCauseOfCut full write (faults.Full end need) after = IsFull full end need after
IsCauseOfCut full write faults.ZoneFailed after = (zone : List ℕ) × (needed_zone after write ≡ Some zone)
IsCauseOfCut full write faults.DiskFault after = Unit {0}
IsCauseOfCut full write faults.OutOfMemory after = Unit {0}
IsCauseOfCut full write (faults.Refused refusal) after = ⊥

-- the write was cut: nothing was added to the history that was found, or a front of what serving it adds, and never all of it
pub record CutsWrite (full : Step → ℕ → ℕ → Type 0) (doubt : Option Step) (t : ℕ) (write : Write) (zones : Option (List NamedZone)) (told told' : Option (List ℕ)) (fault : WriteFault) (h after : History) : Type 0 where
  pub found : History
  pub finds : Finds h doubt found
  pub source : ZoneSource
  pub telling : IsSource zones source
  pub words : List ℕ
  pub dropped : List ℕ
  pub part : IsPart source t found words [] (calls.Write write) after
  pub draws : Draws found after words dropped told told'
  pub cause : IsCauseOfCut full write fault after

-- a call of the disk, or of the source of zones, is said to have failed only where the count of its faults has risen
abbrev pub HasRisen : ℕ → ℕ → ℕ → ℕ → WriteFault → Type 0
HasRisen disk disk' zone zone' faults.DiskFault = Rose disk disk'
HasRisen disk disk' zone zone' faults.ZoneFailed = Rose zone zone'
HasRisen disk disk' zone zone' other = Unit {0}

-- what a write that was not accepted leaves in doubt: only where the disk failed anything, and then no other worker's lease
abbrev pub IsLeftBy : WriteFault → Option Step → Type 0
IsLeftBy faults.DiskFault doubt = IsOwnDoubt doubt
IsLeftBy other doubt = doubt ≡ None

-- how a write that was not accepted ends: it is refused, and nothing was added; or it was cut
abbrev pub EndsWrite : (Step → ℕ → ℕ → Type 0) → Option Step → ℕ → Write → Option (List NamedZone) → Option (List ℕ) → Option (List ℕ) → WriteFault → History → History → Type 0
EndsWrite full doubt t write zones told told' (faults.Refused refusal) h after = Writes doubt t write zones told told' (Err refusal) h after
EndsWrite full doubt t write zones told told' fault h after = CutsWrite full doubt t write zones told told' fault h after
