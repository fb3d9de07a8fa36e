-- The zone that a name was found to have.
use Rattle.std.specs.Prelude.{◌≡◌, ℕ, Option, Result, Ok, Err, List}
use Rattle.outside.specs.Faults.{Rose}
use Rattle.zone_occ.specs.declared.zone_files.NamedZone.{NamedZone}
use Rattle.zone_occ.specs.ZoneText.{ZoneText}
use Rattle.next_command.specs.declared.zone_found.ZoneFound.{ZoneFound}
use Rattle.next_command.specs.declared.zone_found.ZoneFound.TheVariants as founds
use Rattle.next_command.specs.declared.zone_found.FindFault.{FindFault}
use Rattle.next_command.specs.declared.zone_found.FindFault.TheVariants as faults
use Rattle.next_command.specs.Answers.{MayHave, absent, no_zone, zone_in, zone_under}

-- what is said of what was found
abbrev pub told_of : ZoneFound → Result ZoneText (List ℕ)
told_of (founds.Zone zone) = Ok zone
told_of founds.Absent = Err absent
told_of founds.NotAZone = Err no_zone

-- it is what a source may have under a name
pub record IsFound (zones : Option (List NamedZone)) (name : List ℕ) (found : ZoneFound) : Type 0 where
  pub bytes : Option (List ℕ)
  pub had : MayHave zones name bytes
  pub is : zone_under name bytes ≡ told_of found

-- the same where UTC is not looked for
pub record IsFoundNamed (zones : Option (List NamedZone)) (name : List ℕ) (found : ZoneFound) : Type 0 where
  pub bytes : Option (List ℕ)
  pub had : MayHave zones name bytes
  pub is : zone_in bytes ≡ told_of found

-- the source is said to have failed only where the count of its failed calls has risen
abbrev pub HasRisen : ℕ → ℕ → FindFault → Type 0
HasRisen before now faults.ZonesFailed = Rose before now
HasRisen before now faults.OutOfMemory = Unit {0}
