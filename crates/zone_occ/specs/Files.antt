-- Where the bytes of zones come from: what a source tells, and what it answers.
use Rattle.std.specs.Prelude.{◌≡◌, ℕ, ◌≤◌, Option, Some, None, Result, Ok, Err, List, length, take, find}
use Rattle.plain_words.specs.Lists.{same_text}
use Rattle.outside.specs.Failing.{Failing}
use Rattle.outside.specs.Faults.{Rose}
use Rattle.zone_occ.specs.declared.zone_files.TheConstants.{LONGEST_ANSWER}
use Rattle.zone_occ.specs.declared.zone_files.NamedZone.{NamedZone}
use Rattle.zone_occ.specs.declared.zone_files.ZoneAnswer.{ZoneAnswer}
use Rattle.zone_occ.specs.declared.zone_files.ZoneAnswer.TheVariants.{Present, Absent}
use Rattle.zone_occ.specs.declared.zone_files.ZoneCallFault.{ZoneCallFault}
use Rattle.zone_occ.specs.declared.zone_files.ZoneCallFault.TheVariants.{Failed, OutOfMemory}

-- the zone of this name, the first of them
abbrev pub zone_named : List NamedZone → List ℕ → Option NamedZone
zone_named zones name = find (λ zone. same_text zone.name name) zones

-- what is answered for a zone, if there is one
abbrev pub answer_of : Option NamedZone → ZoneAnswer
answer_of None = Absent
answer_of (Some zone) = Present (take LONGEST_ANSWER zone.bytes)

-- an answer is what the source tells of the name, where it tells
abbrev pub IsTold : Option (List NamedZone) → List ℕ → ZoneAnswer → Type 0
IsTold None name answer = Unit {0}
IsTold (Some zones) name answer = answer ≡ answer_of (zone_named zones name)

-- an answer has no more bytes than are needed to see that there are too many
abbrev pub IsShort : ZoneAnswer → Type 0
IsShort (Present bytes) = length bytes ≤ LONGEST_ANSWER
IsShort Absent = Unit {0}

-- the count of failed calls stays, but for a call that failed
abbrev pub IsCounted : Result ZoneAnswer ZoneCallFault → ℕ → ℕ → Type 0
IsCounted (Ok answer) before now = now ≡ before
IsCounted (Err OutOfMemory) before now = now ≡ before
IsCounted (Err Failed) before now = Rose before now

-- what contracts see of zones in memory: the zones, and the calls that fail
pub record MapText : Type 0 where
  pub zones : List NamedZone
  pub failing : Failing
