-- The bytes of a zone that a write needs, from a source that tells of its zones or does not.
use Rattle.std.specs.Prelude.{◌≡◌, ℕ, Option, Some, List, true}
use Rattle.zone_occ.specs.declared.zone_files.NamedZone.{NamedZone}
use Rattle.sched_calls.specs.Replies.{zone_refusal}
use Rattle.sched_calls.specs.Serves.{ZoneSource, lacks_zone}
use Rattle.book_parts.specs.Stands.{calendar}
use Rattle.durable_writes.specs.declared.write_fault.WriteFault.{WriteFault}
use Rattle.durable_writes.specs.declared.write_fault.WriteFault.TheVariants as faults
use Rattle.durable_writes.specs.Writing.{IsSource}

-- a zone was had: as a source may answer it
pub record IsHad (zones : Option (List NamedZone)) (name bytes : List ℕ) : Type 0 where
  pub source : ZoneSource
  pub telling : IsSource zones source
  pub had : source name ≡ Some bytes

-- a zone cannot be had: there are no bytes of it, or they are not a zone
pub record IsLacked (zones : Option (List NamedZone)) (name : List ℕ) : Type 0 where
  pub source : ZoneSource
  pub telling : IsSource zones source
  pub lacks : lacks_zone calendar source (Some name) ≡ true

-- what is told of a zone that cannot be had: the refusal, or want of memory
abbrev pub TellsLack : (Lack : Type 0) → WriteFault → Type 0
TellsLack Lack (faults.Refused refusal) = (refusal ≡ zone_refusal) × Lack
TellsLack Lack (faults.Full end need) = ⊥
TellsLack Lack faults.DiskFault = ⊥
TellsLack Lack faults.ZoneFailed = ⊥
TellsLack Lack faults.OutOfMemory = Unit {0}

-- why a zone was not had: it cannot be had, or its source failed, or there was no memory
abbrev pub IsNotHad : Option (List NamedZone) → List ℕ → WriteFault → Type 0
IsNotHad zones name (faults.Refused refusal) = (refusal ≡ zone_refusal) × IsLacked zones name
IsNotHad zones name (faults.Full end need) = ⊥
IsNotHad zones name faults.DiskFault = ⊥
IsNotHad zones name faults.ZoneFailed = Unit {0}
IsNotHad zones name faults.OutOfMemory = Unit {0}
