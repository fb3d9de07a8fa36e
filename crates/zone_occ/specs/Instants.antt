-- The instants of an expression in a zone: which moments they are, as a test, and those of a span as a list. Moments
-- are whole seconds since 1970-01-01T00:00:00Z.
use Rattle.std.specs.Prelude.{ℕ, ◌+◌, ◌-◌, ◌*◌, ◌%◌, ◌==◌, nat_le, pos, Bool, ◌&&◌, List}
use Rattle.jiff_tz.specs.PosixRule.{int_same}
use Rattle.expressions.specs.declared.expression.Civil.{Civil}
use Rattle.expressions.specs.declared.expression.Expr.{Expr}
use Rattle.expressions.specs.declared.expression.Expr.TheVariants.{At, Rate, Cron}
use Rattle.expressions.specs.declared.expression.Unit.{Unit as RateUnit}
use Rattle.expressions.specs.declared.expression.Unit.TheVariants as units
use Rattle.expressions.specs.CivilSeconds.{is_civil}
use Rattle.plain_words.specs.Lists.{some_pass}
use Rattle.plain_words.specs.Moments.{last_moment}
use Rattle.plain_words.specs.Lists.{passing, any_passing}
use Rattle.cron_search.specs.Fit.{fits}
use Rattle.zone_occ.specs.ZoneText.{ZoneText}
use Rattle.zone_occ.specs.Conversion.{conv}

-- the seconds of a unit: a day has 86400
abbrev pub unit_seconds : RateUnit → ℕ
unit_seconds units.Minute = 60
unit_seconds units.Hour = 3600
unit_seconds units.Day = 86400

-- the seconds from one run of a rate to the next
abbrev pub period : ℕ → RateUnit → ℕ
period count unit = count * unit_seconds unit

-- the moment comes no, one, two or more whole periods after the anchor
abbrev pub is_step : ℕ → ℕ → ℕ → Bool
is_step seconds anchor moment = nat_le anchor moment && ((moment - anchor) % seconds == 0)

-- the moment is the instant of the civil second in the zone
abbrev pub is_shown : ZoneText → Civil → ℕ → Bool
is_shown zone d moment = some_pass (λ instant. int_same instant (pos moment)) (conv zone d)

-- one of the numbers below a bound passes a test
unfoldable pub some_below : ℕ → (ℕ → Bool) → Bool
some_below bound test = any_passing test bound

-- the start of a minute
abbrev pub minute_at : ℕ → ℕ → ℕ → ℕ → ℕ → Civil
minute_at y m d h n = record { year = y; month = m; day = d; hour = h; minute = n; second = 0 }

-- one of the civil minutes of the years 1970 to 2199 passes a test
unfoldable pub some_minute : (Civil → Bool) → Bool
some_minute test =
    some_below 2200 (λ y. some_below 13 (λ m. some_below 32 (λ d. some_below 24 (λ h. some_below 60 (λ n.
    is_civil (minute_at y m d h n) && test (minute_at y m d h n))))))

-- The moment is an instant of the expression in the zone, with this anchor: of an `at` the instant of its civil
-- second, of a rate a step from the anchor on, and of a cron the instant of a fitting minute.
unfoldable pub is_instant : Expr → ZoneText → ℕ → ℕ → Bool
is_instant (At d) zone anchor moment = nat_le moment last_moment && (is_civil d && is_shown zone d moment)
is_instant (Rate count unit) zone anchor moment =
    nat_le moment last_moment && is_step (period count unit) anchor moment
is_instant (Cron sets) zone anchor moment =
    nat_le moment last_moment && some_minute (λ d. fits sets d && is_shown zone d moment)

-- the instants from one moment to another, rising
unfoldable pub instants : Expr → ZoneText → ℕ → ℕ → ℕ → List ℕ
instants expr zone anchor from to = passing (λ moment. nat_le from moment && is_instant expr zone anchor moment) (to + 1)
