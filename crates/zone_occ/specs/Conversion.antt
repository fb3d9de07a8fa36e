-- From civil time to instants: nothing in a gap, the earlier instant in a fold.
use Rattle.std.specs.Prelude.{◌≡◌, ℤ, pos, ◌-ℤ◌, Option, Some, None}
use Rattle.std.specs.Int.{int_max}
use Rattle.expressions.specs.declared.expression.Civil.{Civil}
use Rattle.expressions.specs.CivilSeconds.{civil_second}
use Rattle.zone_occ.specs.declared.offset_bounds.OffsetBounds.{OffsetBounds}
use Rattle.zone_occ.specs.ZoneText.{ZoneText}
use Rattle.zone_occ.specs.Sides.{Sides, once, never, twice, sides}
use Rattle.zone_occ.specs.Offsets.{bounds, IsInBounds}

-- the instant of a civil second with these sides: of two, the greater offset gives the earlier one
abbrev pub instant_by : ℤ → Sides → Option ℤ
instant_by second (once offset) = Some (second -ℤ offset)
instant_by second never = None
instant_by second (twice before after) = Some (second -ℤ int_max before after)

-- the instant of a civil second in a zone, in seconds since 1970-01-01T00:00:00Z
abbrev pub conv : ZoneText → Civil → Option ℤ
conv zone d = instant_by (pos (civil_second d)) (sides zone (pos d.year) (pos (civil_second d)))

-- each instant lies between a least and a greatest offset from its civil second read in UTC
abbrev pub IsNearBy : OffsetBounds → ZoneText → Type 0
IsNearBy b zone = (d : Civil) → (i : ℤ) → conv zone d ≡ Some i → IsInBounds b (pos (civil_second d) -ℤ i)

-- between the least and the greatest offset of the zone
abbrev pub IsNear : ZoneText → Type 0
IsNear zone = IsNearBy (bounds zone) zone
