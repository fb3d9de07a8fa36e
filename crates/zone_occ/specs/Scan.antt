-- Where a scan of civil seconds begins and ends.
use Rattle.std.specs.Prelude.{◌≡◌, ℕ, ◌<◌, ◌≤◌, pos, Some}
use Rattle.expressions.specs.declared.expression.Civil.{Civil}
use Rattle.cron_search.specs.CivilTime.{IsCivilSecond}
use Rattle.cron_search.specs.Search.{IsNoLater}
use Rattle.zone_occ.specs.ZoneText.{ZoneText}
use Rattle.zone_occ.specs.Conversion.{conv}

-- a civil second is no later than any whose instant comes from a moment on
abbrev pub IsStart : ZoneText → ℕ → Civil → Type 0
IsStart zone from start =
    (d : Civil) (i : ℕ) → IsCivilSecond d → conv zone d ≡ Some (pos i) → from ≤ i → IsNoLater start d

-- no civil second from this one on has an instant up to a limit
abbrev pub IsEnd : ZoneText → ℕ → Civil → Type 0
IsEnd zone limit end = (d : Civil) (i : ℕ) → IsNoLater end d → conv zone d ≡ Some (pos i) → limit < i
