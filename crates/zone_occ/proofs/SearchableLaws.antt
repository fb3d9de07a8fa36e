-- What a text spells can be searched.
use Rattle.std.proofs.Common.{ℕ, List, [], ◌∷◌, ◌≤◌}
use Rattle.expressions.specs.declared.expression.Expr.TheVariants.{At, Rate, Cron}
use Rattle.expressions.specs.declared.expression.Unit.{Unit as RateUnit}
use Rattle.expressions.specs.Pieces.{words}
use Rattle.expressions.specs.Spelling.{AreRateWords}
use Rattle.expressions.proofs.RealSeconds.{is_civil-true}
use Rattle.zone_occ.specs.FirstInstants.{IsValidSearchable}

counted : (pieces : List (List ℕ)) (count : ℕ) (unit : RateUnit) → AreRateWords pieces count unit → 1 ≤ count
counted [] count unit are = absurd are
counted (value ∷ []) count unit are = absurd are
counted (value ∷ name ∷ []) count unit are = are.1
counted (value ∷ name ∷ more ∷ rest) count unit are = absurd are

pub valid_searchable : IsValidSearchable
valid_searchable (At d) valid = is_civil-true d valid.spells.0
valid_searchable (Rate count unit) valid = counted (words valid.spells.inner) count unit valid.spells.spelled
valid_searchable (Cron sets) valid = tt
