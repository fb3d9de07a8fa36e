-- What the functions of the service pass on: the response that says something, and what is asked for answered at a moment.
use Rattle.std.specs.Prelude.{◌≡◌, ◌⊎◌, ℕ, Option, Some, Result, Ok, Err, List, []}
use Rattle.zone_occ.specs.declared.zone_files.NamedZone.{NamedZone}
use Rattle.sched_plain.specs.declared.step.Step.{Step}
use Rattle.sched_plain.specs.declared.write.Write.{Write}
use Rattle.sched_plain.specs.History.{History, count}
use Rattle.sched_calls.specs.declared.call.Call.{Call}
use Rattle.sched_calls.specs.declared.call.Call.TheVariants as calls
use Rattle.sched_calls.specs.declared.reply.Refusal.{Refusal}
use Rattle.sched_calls.specs.declared.reply.Reply.{Reply}
use Rattle.sched_calls.specs.Serves.{Asked, Finds, ZoneSource, Serves, IsCut, needed_zone}
use Rattle.sweep_laws.specs.KeptLaws.{NoOtherHolds}
use Rattle.book_parts.specs.Stands.{calendar}
use Rattle.durable_book.specs.declared.grow_fault.GrowFault.{GrowFault}
use Rattle.durable_book.specs.declared.grow_fault.GrowFault.TheVariants as grows
use Rattle.durable_writes.specs.declared.write_fault.WriteFault.{WriteFault}
use Rattle.durable_writes.specs.declared.write_fault.WriteFault.TheVariants as faults
use Rattle.durable_writes.specs.Words.{Draws}
use Rattle.durable_writes.specs.Writing.{IsSource, IsFull, IsPart}
use Rattle.timer_work.specs.Swept.{Sends}
use Rattle.request_fields.specs.declared.fault.DecodeFault.{DecodeFault}
use Rattle.request_fields.specs.declared.fault.DecodeFault.TheVariants as unread
use Rattle.http_wire.specs.Response.{memory_text}
use Rattle.sched_top.specs.declared.service.response.Response.{Response}
use Rattle.sched_top.specs.declared.service.response.Response.TheVariants as responses
use Rattle.sched_top.specs.Serving.{Kind, Served, ShortOfMemory, ZonesFailed, JournalFull, DiskFailed, Taken, answer_text, zones_text, disk_text, full_text}
use Rattle.sched_top.specs.Turns.{kind_of, bytes_of, Outside}

-- the response is of this kind and has these bytes, or memory was wanted for it
abbrev pub IsTold : Kind → List ℕ → Response → Type 0
IsTold kind text response = (response ≡ responses.ShortOfMemory) ⊎ ((kind_of response ≡ kind) × (bytes_of response ≡ text))

-- the response tells why a request has no call, over a history with so many steps
abbrev pub TellsUnread : DecodeFault → ℕ → Response → Type 0
TellsUnread (unread.Refused refusal) steps response = IsTold Served (answer_text (Err refusal) steps) response
TellsUnread unread.OutOfMemory steps response = response ≡ responses.ShortOfMemory

-- it tells how a write ended
abbrev pub TellsWrite : Result Reply WriteFault → ℕ → Response → Type 0
TellsWrite (Ok reply) steps response = IsTold Served (answer_text (Ok reply) steps) response
TellsWrite (Err (faults.Refused refusal)) steps response = IsTold Served (answer_text (Err refusal) steps) response
TellsWrite (Err (faults.Full end need)) steps response = IsTold JournalFull (full_text end need steps) response
TellsWrite (Err faults.DiskFault) steps response = IsTold DiskFailed disk_text response
TellsWrite (Err faults.ZoneFailed) steps response = IsTold ZonesFailed zones_text response
TellsWrite (Err faults.OutOfMemory) steps response = response ≡ responses.ShortOfMemory

-- it tells why a sweep was cut
abbrev pub TellsStop : GrowFault → ℕ → Response → Type 0
TellsStop (grows.Full end need) steps response = IsTold JournalFull (full_text end need steps) response
TellsStop grows.DiskFault steps response = IsTold DiskFailed disk_text response
TellsStop grows.OutOfMemory steps response = response ≡ responses.ShortOfMemory

-- what is asked for was served
pub record AskedServed (zones : Option (List NamedZone)) (at : ℕ) (asked : Asked) (found : History) (taken : Taken) (after : History) (response : List ℕ) : Type 0 where
  pub source : ZoneSource
  pub telling : IsSource zones source
  pub answer : Result Reply Refusal
  pub serves : Serves calendar source at found taken.words taken.ends asked after [] [] answer
  pub whole : taken.dropped ≡ []
  pub text : response ≡ answer_text answer (count after)

-- the call that is asked for was cut short
pub record AskedCutShort (zones : Option (List NamedZone)) (at : ℕ) (asked : Asked) (found : History) (taken : Taken) (after : History) : Type 0 where
  pub call : Call
  pub asks : asked ≡ Ok call
  pub source : ZoneSource
  pub telling : IsSource zones source
  pub part : IsPart source at found taken.words taken.ends call after

-- it was cut anywhere
pub record AskedCutAnywhere (zones : Option (List NamedZone)) (at : ℕ) (asked : Asked) (found : History) (taken : Taken) (after : History) : Type 0 where
  pub call : Call
  pub asks : asked ≡ Ok call
  pub source : ZoneSource
  pub telling : IsSource zones source
  pub cut : IsCut calendar source at found taken.words taken.ends call after

-- the zone of the write that is asked for could not be read
pub record AskedWithoutZones (asked : Asked) (found after : History) : Type 0 where
  pub write : Write
  pub asks : asked ≡ Ok (calls.Write write)
  pub zone : List ℕ
  pub wants : needed_zone found write ≡ Some zone
  pub same : after ≡ found

-- what is asked for was answered in one of these ways
abbrev pub AskedAnswered : (Step → ℕ → ℕ → Type 0) → Type 0 → Option (List NamedZone) → Kind → ℕ → Asked → History → Taken → History → List ℕ → Type 0
AskedAnswered full failed zones Served at asked found taken after response = AskedServed zones at asked found taken after response
AskedAnswered full failed zones ShortOfMemory at asked found taken after response =
    ((after ≡ found) ⊎ AskedCutAnywhere zones at asked found taken after) × (response ≡ memory_text)
AskedAnswered full failed zones ZonesFailed at asked found taken after response = AskedWithoutZones asked found after × (response ≡ zones_text)
AskedAnswered full failed zones JournalFull at asked found taken after response =
    AskedCutShort zones at asked found taken after × (end : ℕ) × (need : ℕ) × IsFull full end need after × (response ≡ full_text end need (count after))
AskedAnswered full failed zones DiskFailed at asked found taken after response =
    AskedCutShort zones at asked found taken after × failed × (response ≡ disk_text)

-- what a request asks for answered at a moment, over the history that was found
pub record AskedTurn (full : Step → ℕ → ℕ → Type 0) (failed : Type 0) (zones : Option (List NamedZone)) (doubt : Option Step) (asked : Asked) (at : ℕ) (old new : Outside) (response : Response) (h after : History) : Type 0 where
  pub found : History
  pub finds : Finds h doubt found
  pub taken : Taken
  pub answered : AskedAnswered full failed zones (kind_of response) at asked found taken after (bytes_of response)
  pub draws : Draws found after taken.words taken.dropped old.words new.words
  pub sends : Sends found after old.sent new.sent
  pub free : NoOtherHolds after at
