-- Why a zone file could not be read.
use Rattle.std.specs.Prelude.{◌≡◌, true, None, is_ok}
use Rattle.jiff_core.specs.declared.error.Error.{Error}
use Rattle.jiff_core.specs.declared.error.Error.TheVariants as errors
use Rattle.jiff_tz.specs.TzifReader.{TzifText, Parsed}
use Rattle.zone_occ.specs.declared.zone.ZoneFault.{ZoneFault}
use Rattle.zone_occ.specs.declared.zone.ZoneFault.TheVariants.{TooLong, NotAZone, OutOfMemory}
use Rattle.zone_occ.specs.ZoneBytes.{of_table}

-- the fault that an error of the library is
abbrev pub fault_of : Error → ZoneFault
fault_of errors.OutOfMemory = OutOfMemory
fault_of _ = NotAZone

-- why what was read as a zone file gave no zone: it is none, or memory was wanted for what is one to its format
abbrev pub IsFileFault : ZoneFault → Parsed TzifText → Type 0
IsFileFault (TooLong count) read = ⊥
IsFileFault NotAZone read = of_table read ≡ None
IsFileFault OutOfMemory read = is_ok read ≡ true
