-- The instants of each kind of expression as facts: what the test of a moment says, in words of logic.
use Rattle.std.specs.Prelude.{◌≡◌, ℕ, ◌+◌, ◌*◌, ◌≤◌, pos, Some}
use Rattle.expressions.specs.declared.expression.Civil.{Civil}
use Rattle.expressions.specs.declared.expression.CronSets.{CronSets}
use Rattle.plain_words.specs.Moments.{last_moment}
use Rattle.cron_search.specs.Search.{IsFittingMinute}
use Rattle.zone_occ.specs.ZoneText.{ZoneText}
use Rattle.zone_occ.specs.Conversion.{conv}

-- the moment of an `at`: the instant of its civil second
pub record IsAtInstant (zone : ZoneText) (d : Civil) (moment : ℕ) : Type 0 where
  pub in_time : moment ≤ last_moment
  pub shown : conv zone d ≡ Some (pos moment)

-- some number of whole periods after the anchor
pub record IsStep (seconds anchor moment : ℕ) : Type 0 where
  pub times : ℕ
  pub is : moment ≡ anchor + times * seconds

-- a moment of a rate: a step from the anchor on
pub record IsRateInstant (seconds anchor moment : ℕ) : Type 0 where
  pub in_time : moment ≤ last_moment
  pub step : IsStep seconds anchor moment

-- a moment of a cron: the instant of a fitting minute
pub record IsCronInstant (sets : CronSets) (zone : ZoneText) (moment : ℕ) : Type 0 where
  pub in_time : moment ≤ last_moment
  pub minute : Civil
  pub fitting : IsFittingMinute sets minute
  pub shown : conv zone minute ≡ Some (pos moment)
