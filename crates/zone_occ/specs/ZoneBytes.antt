-- Which bytes are a zone: at most LONGEST_ZONE of them, a zone file where they begin with `TZif`, else a POSIX rule.
use Rattle.std.specs.Prelude.{◌≡◌, ℕ, nat_eq, nat_lt, ◌<◌, ◌≤◌, Bool, true, if◌then◌else◌, Option, Some, None, Ok, Err, is_ok, List, length, codes}
use Rattle.std.specs.List.{starts_with}
use Rattle.jiff_tz.specs.PosixText.{TzText}
use Rattle.jiff_tz.specs.PosixReader.{read_whole}
use Rattle.jiff_tz.specs.TzifReader.{TzifText, Parsed, read_tzif}
use Rattle.plain_words.specs.declared.limits.TheConstants.{LONGEST_ZONE}
use Rattle.zone_occ.specs.declared.zone.ZoneFault.{ZoneFault}
use Rattle.zone_occ.specs.declared.zone.ZoneFault.TheVariants.{TooLong, NotAZone, OutOfMemory}
use Rattle.zone_occ.specs.ZoneText.{ZoneText, rule, table}
use Rattle.zone_occ.specs.Agreement.{agrees}

-- the bytes are those of a zone file
abbrev pub is_file : List ℕ → Bool
is_file bytes = starts_with nat_eq bytes (codes "TZif")

-- the zone of what was read as a zone file
abbrev pub of_table : Parsed TzifText → Option ZoneText
of_table (Ok text) = if agrees text then Some (table text) else None
of_table (Err fault) = None

-- the zone of what was read as a rule
abbrev pub of_rule : Option TzText → Option ZoneText
of_rule None = None
of_rule (Some text) = Some (rule text)

-- the zone of bytes of any length
abbrev pub read_zone : List ℕ → Option ZoneText
read_zone bytes = if is_file bytes then of_table (read_tzif bytes) else of_rule (read_whole bytes)

-- the zone of these bytes, if they are one
abbrev pub zone_of : List ℕ → Option ZoneText
zone_of bytes = if nat_lt LONGEST_ZONE (length bytes) then None else read_zone bytes

-- why bytes that are not too many could not be read
abbrev pub IsRefusal : ZoneFault → List ℕ → Type 0
IsRefusal (TooLong count) bytes = ⊥
IsRefusal NotAZone bytes = read_zone bytes ≡ None
IsRefusal OutOfMemory bytes = (is_file bytes ≡ true) × (is_ok (read_tzif bytes) ≡ true)

-- Why a zone could not be read: too many bytes, which are counted; not too many and not a zone; or not too many, and
-- memory was wanted for what reads as a zone file.
abbrev pub IsFaultOf : ZoneFault → List ℕ → Type 0
IsFaultOf (TooLong count) bytes = (LONGEST_ZONE < length bytes) × (count ≡ length bytes)
IsFaultOf NotAZone bytes = (length bytes ≤ LONGEST_ZONE) × (zone_of bytes ≡ None)
IsFaultOf OutOfMemory bytes = (length bytes ≤ LONGEST_ZONE) × IsRefusal OutOfMemory bytes
