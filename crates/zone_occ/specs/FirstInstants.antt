-- What searches for instants answer: the next one, and the first ones of a span.
use Rattle.std.specs.Prelude.{ℕ, ◌-◌, ◌≤◌, ◌==◌, min, IsTrue, if◌then◌else◌, Option, Some, None, List, length, slice_index}
use Rattle.std.specs.List.{All, Contains}
use Rattle.std.specs.List.Sorted.{IsStrictlyIncreasing}
use Rattle.expressions.specs.declared.expression.Expr.{Expr}
use Rattle.expressions.specs.declared.expression.Expr.TheVariants.{At, Rate, Cron}
use Rattle.expressions.specs.Spelling.{IsValidExpression}
use Rattle.cron_search.specs.CivilTime.{IsCivilSecond}
use Rattle.zone_occ.specs.ZoneText.{ZoneText}
use Rattle.zone_occ.specs.Instants.{is_instant}

-- what a search asks of an expression: a real civil second, a rate that goes on
abbrev pub IsSearchable : Expr → Type 0
IsSearchable (At d) = IsCivilSecond d
IsSearchable (Rate count unit) = 1 ≤ count
IsSearchable (Cron sets) = Unit {0}

-- each expression that some text spells can be searched
abbrev pub IsValidSearchable : Type 0
IsValidSearchable = (expr : Expr) → IsValidExpression expr → IsSearchable expr

-- the moment is an instant of the expression in the zone, with this anchor
abbrev pub IsInstant : Expr → ZoneText → ℕ → ℕ → Type 0
IsInstant expr zone anchor moment = IsTrue (is_instant expr zone anchor moment)

-- the moment has the property, and is the least from `from` on that has
pub record IsNext (Has : ℕ → Type 0) (from moment : ℕ) : Type 0 where
  pub has : Has moment
  pub after : from ≤ moment
  pub least : (later : ℕ) → Has later → from ≤ later → moment ≤ later

-- the earlier of two moments, where there are two
abbrev pub earlier : Option ℕ → Option ℕ → Option ℕ
earlier None other = other
earlier (Some moment) None = Some moment
earlier (Some moment) (Some other) = Some (min moment other)

-- no moment from `from` on has the property
abbrev pub HasNoNext : (ℕ → Type 0) → ℕ → Type 0
HasNoNext Has from = (later : ℕ) → Has later → from ≤ later → ⊥

-- no moment from `from` to `to` has the property
abbrev pub IsBare : (ℕ → Type 0) → ℕ → ℕ → Type 0
IsBare Has from to = (later : ℕ) → Has later → from ≤ later → later ≤ to → ⊥

-- how far a list of at most `max` moments is complete: to its last one where it is full, and else to the end
abbrev pub complete_to : ℕ → ℕ → List ℕ → ℕ
complete_to max to moments = if length moments == max then slice_index moments (max - 1) else to

-- The moments are the first, at most `max` of them, from `from` to `to` that have the property: they rise, each has
-- it, and as far as they are complete none is left out.
pub record AreFirsts (Has : ℕ → Type 0) (from to max : ℕ) (moments : List ℕ) : Type 0 where
  pub rising : IsStrictlyIncreasing moments
  pub few : length moments ≤ max
  pub low : All (λ moment. from ≤ moment) moments
  pub high : All (λ moment. moment ≤ to) moments
  pub each : (moment : ℕ) → Contains moments moment → Has moment
  pub all : (moment : ℕ) → Has moment → from ≤ moment → moment ≤ complete_to max to moments → Contains moments moment
