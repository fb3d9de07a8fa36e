-- What a search for the next fitting minute answers.
use Rattle.std.specs.Prelude.{◌≡◌, ◌≤◌, IsTrue}
use Rattle.expressions.specs.declared.expression.Civil.{Civil}
use Rattle.expressions.specs.declared.expression.CronSets.{CronSets}
use Rattle.cron_search.specs.CivilTime.{IsCivilSecond, civil_second}
use Rattle.cron_search.specs.Fit.{fits}

-- d is a whole minute from 1970 to 2199, and fits
pub record IsFittingMinute (sets : CronSets) (d : Civil) : Type 0 where
  pub real : IsCivilSecond d
  pub whole : d.second ≡ 0
  pub fits : IsTrue (fits sets d)

-- a comes no later than b
abbrev pub IsNoLater : Civil → Civil → Type 0
IsNoLater a b = civil_second a ≤ civil_second b

-- d is the first fitting minute that comes no earlier than `from`
pub record IsFirstFit (sets : CronSets) (from d : Civil) : Type 0 where
  pub found : IsFittingMinute sets d
  pub after : IsNoLater from d
  pub least : (e : Civil) → IsFittingMinute sets e → IsNoLater from e → IsNoLater d e

-- no fitting minute to the end of 2199 comes at or after `from`
abbrev pub HasNoFit : CronSets → Civil → Type 0
HasNoFit sets from = (e : Civil) → IsFittingMinute sets e → IsNoLater from e → ⊥
