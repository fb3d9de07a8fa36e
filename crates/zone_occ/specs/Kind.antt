-- What each kind of zone says, and what the offsets that the library gives for a civil second say.
use Rattle.jiff_tz.specs.declared.ambiguous.AmbiguousOffset.{AmbiguousOffset}
use Rattle.jiff_tz.specs.declared.ambiguous.AmbiguousOffset.TheVariants.{Unambiguous, Gap, Fold}
use Rattle.jiff_tz.specs.PosixText.{tz_view}
use Rattle.jiff_tz.specs.Tzif.{tzif_view}
use Rattle.zone_occ.specs.declared.zone.Kind.{Kind}
use Rattle.zone_occ.specs.declared.zone.Kind.TheVariants as kinds
use Rattle.zone_occ.specs.ZoneText.{ZoneText, utc, rule, table}
use Rattle.zone_occ.specs.Sides.{Sides, once, never, twice}

-- the text of a zone of this kind
abbrev pub kind_text : Kind → ZoneText
kind_text kinds.Utc = utc
kind_text (kinds.Rule tz) = rule (tz_view tz)
kind_text (kinds.Table tzif) = table (tzif_view tzif)

-- the sides that offsets stand for
abbrev pub sides_of : AmbiguousOffset → Sides
sides_of (Unambiguous offset) = once offset.seconds
sides_of (Gap before after) = never
sides_of (Fold before after) = twice before.seconds after.seconds
