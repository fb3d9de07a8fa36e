-- The calendar of real time zones: which bytes are a zone, and which moments are instants of an expression in it.
use Rattle.std.specs.Prelude.{◌≡◌, ℕ, ◌==◌, ◌&&◌, Option, Some, None, is_some, List}
use Rattle.expressions.specs.declared.expression.Civil.{Civil}
use Rattle.expressions.specs.declared.expression.Expr.{Expr}
use Rattle.expressions.specs.declared.expression.Expr.TheVariants.{At}
use Rattle.expressions.specs.Calendar.{Calendar}
use Rattle.expressions.specs.CivilSeconds.{is_civil, civil_second}
use Rattle.plain_words.specs.Lists.{some_pass}
use Rattle.zone_occ.specs.ZoneText.{ZoneText, utc}
use Rattle.zone_occ.specs.ZoneBytes.{zone_of}
use Rattle.zone_occ.specs.Instants.{is_instant}

-- the zone of a content's bytes: UTC where there are none
abbrev pub zone_under : Option (List ℕ) → Option ZoneText
zone_under None = Some utc
zone_under (Some bytes) = zone_of bytes

-- what real zones say of bytes and of moments
abbrev pub zone_calendar : Calendar
zone_calendar = record {
  readable = λ bytes. is_some (zone_of bytes);
  at = λ expr bytes anchor moment. some_pass (λ zone. is_instant expr zone anchor moment) (zone_under bytes);
}

-- an `at` in UTC has one instant: its civil second, where that is a real one
abbrev pub HasAtsInUtc : Calendar → Type 0
HasAtsInUtc c =
    (d : Civil) (anchor moment : ℕ) → c.at (At d) None anchor moment ≡ (is_civil d && moment == civil_second d)

-- under bytes that are a zone the instants are those of the zone
abbrev pub HasZones : Calendar → Type 0
HasZones c =
    (expr : Expr) (bytes : List ℕ) (zone : ZoneText) (anchor moment : ℕ) → zone_of bytes ≡ Some zone
    → c.at expr (Some bytes) anchor moment ≡ is_instant expr zone anchor moment
