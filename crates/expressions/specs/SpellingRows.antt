-- What the definitions say of the expressions written out: what their texts spell, their canonical spelling, and the first
-- fault of texts that spell none.
use Rattle.std.specs.Prelude.{◌≡◌, Some, None, [], ◌∷◌, ◌++◌, codes}
use Rattle.expressions.specs.declared.expression.Expr.TheVariants as exprs
use Rattle.expressions.specs.declared.expression.Unit.TheVariants as units
use Rattle.expressions.specs.Spelling.{Spells}
use Rattle.expressions.specs.ExpressionFaults.{fault_at, fault}
use Rattle.expressions.specs.Canonical.{canonical}
use Rattle.expressions.specs.SpellingExamples.{half_past_two, first_weekday, second_tuesday, last_friday, at_runs}

-- texts, and what they spell
pub record TextsSpell : Type 0 where
  pub half_past_two : Spells (codes "cron(30 2 * * ? *)") (exprs.Cron half_past_two)
  pub first_weekday : Spells (codes "cron(0 9 1W AUG ? 2026)") (exprs.Cron first_weekday)
  pub second_tuesday : Spells (codes "cron(0 9 ? JAN 3#2 2026)") (exprs.Cron second_tuesday)
  pub last_friday : Spells (codes "cron(0 9 ? 1 fril 2026)") (exprs.Cron last_friday)
  pub day : Spells (codes "rate(1 days)") (exprs.Rate 1 units.Day)
  pub hours : Spells (codes "rate(24   hour)") (exprs.Rate 24 units.Hour)

-- the canonical spelling of an expression
pub record CanonicalTexts : Type 0 where
  pub half_past_two : canonical (exprs.Cron half_past_two) ≡ codes "cron(30 2 * * ? *)"
  pub first_weekday : canonical (exprs.Cron first_weekday) ≡ codes "cron(0 9 1W 8 ? 2026)"
  pub second_tuesday : canonical (exprs.Cron second_tuesday) ≡ codes "cron(0 9 ? 1 3#2 2026)"
  pub last_friday : canonical (exprs.Cron last_friday) ≡ codes "cron(0 9 ? 1 6L 2026)"
  pub day : canonical (exprs.Rate 1 units.Day) ≡ codes "rate(1 day)"
  pub hours : canonical (exprs.Rate 24 units.Hour) ≡ codes "rate(24 hours)"
  pub at_runs : canonical (exprs.Cron at_runs) ≡ codes "cron(0-2,30,58-59 * ? * 7 2097-2098)"

-- the first fault of a text, with its place
pub record FirstFaults : Type 0 where
  pub two_days_of_week : fault (codes "cron(0 9 ? * 3#1,6#3 *)") ≡ Some (fault_at 4 13)
  pub both_days_given : fault (codes "cron(0 9 * * * *)") ≡ Some (fault_at 5 13)
  pub no_day_given : fault (codes "cron(0 9 ? * ? *)") ≡ Some (fault_at 6 13)
  pub week_runs_back : fault (codes "cron(0 9 ? * FRI-MON *)") ≡ Some (fault_at 3 13)
  pub zero_before_the_unit : fault (codes "rate(0 x)") ≡ Some (fault_at 3 5)
  pub digits_of_zero : fault (codes "rate(00 minutes)") ≡ Some (fault_at 2 5)
  pub no_such_unit : fault (codes "rate(1 fortnight)") ≡ Some (fault_at 2 7)
  pub space_first : fault (codes "rate( 1 day)") ≡ Some (fault_at 1 0)
  pub space_last : fault (codes "rate(1 day )") ≡ Some (fault_at 1 0)
  pub tab_between : fault (codes "rate(1" ++ 9 ∷ [] ++ codes "day)") ≡ Some (fault_at 1 0)
  pub sixth_of_a_month : fault (codes "cron(0 9 ? * 3#6 *)") ≡ Some (fault_at 3 13)
  pub zeroth_of_a_month : fault (codes "cron(0 9 ? * 3#0 *)") ≡ Some (fault_at 3 13)
  pub twelfth_of_a_month : fault (codes "cron(0 9 ? * 3#12 *)") ≡ Some (fault_at 2 13)
  pub step_of_0 : fault (codes "cron(*/0 9 ? * 2 *)") ≡ Some (fault_at 3 5)
  pub step_of_four_digits : fault (codes "cron(*/1000 9 ? * 2 *)") ≡ Some (fault_at 2 5)
  pub run_to_no_number : fault (codes "cron(99-x 9 ? * 2 *)") ≡ Some (fault_at 2 5)
  pub nothing_behind_a_comma : fault (codes "cron(1, 9 ? * 2 *)") ≡ Some (fault_at 2 7)
  pub last_day_among_days : fault (codes "cron(0 9 L,5 13 ? *)") ≡ Some (fault_at 4 9)
  pub saturday_among_days : fault (codes "cron(0 9 ? * 2,L *)") ≡ Some (fault_at 4 13)
  pub year_too_early : fault (codes "at(1900-02-29T00:00:00)") ≡ Some (fault_at 3 3)
  pub no_leap_day_in_2100 : fault (codes "at(2100-02-29T00:00:00)") ≡ Some (fault_at 3 11)
  pub month_13 : fault (codes "at(2026-13-01T00:00:00)") ≡ Some (fault_at 3 8)
  pub second_60 : fault (codes "at(2026-01-01T00:00:60)") ≡ Some (fault_at 3 20)
  pub month_of_one_digit : fault (codes "at(2026-1-01T00:00:00)") ≡ Some (fault_at 1 0)
  pub empty : fault (codes "") ≡ Some (fault_at 1 0)

-- texts without fault
pub record NoFaults : Type 0 where
  pub leap_day : fault (codes "at(2096-02-29T23:59:59)") ≡ None
  pub most_of_a_rate : fault (codes "rate(999999 minutes)") ≡ None
  pub half_past_two : fault (codes "cron(30 2 * * ? *)") ≡ None
  pub every_form : fault (codes "cron(59/999 */23 1-31/31 jan-DEC,5 ? 2097-2098)") ≡ None
  pub saturday_alone : fault (codes "cron(0/5 9 ? * L *)") ≡ None
