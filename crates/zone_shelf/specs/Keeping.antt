-- Why the bytes of a time zone could not be kept.
use Rattle.std.specs.Prelude.{◌≡◌, ◌⊎◌, ℕ, IsSome, List}
use Rattle.zone_occ.specs.declared.zone.ZoneFault.{ZoneFault}
use Rattle.zone_occ.specs.declared.zone.ZoneFault.TheVariants.{OutOfMemory}
use Rattle.zone_occ.specs.ZoneBytes.{zone_of, IsFaultOf}

-- why bytes could not be kept as a zone: no zone could be read from them, or memory was wanted for what is a zone
abbrev pub IsKeepFault : ZoneFault → List ℕ → Type 0
IsKeepFault fault bytes = IsFaultOf fault bytes ⊎ ((fault ≡ OutOfMemory) × IsSome (zone_of bytes))
