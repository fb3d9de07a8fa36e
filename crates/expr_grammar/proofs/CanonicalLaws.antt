-- The canonical spelling of a valid expression spells it.
use Rattle.std.proofs.Common.{◌≡◌, ℕ, ◌≤◌, List, [], ◌∷◌, ◌++◌, refl, ap, append_assoc, lit≤}
use Rattle.std.specs.Prelude.{codes, map}
use Rattle.std.specs.List.{join_with_byte}
use Rattle.expressions.specs.declared.expression.CronSets.{CronSets}
use Rattle.expressions.specs.declared.expression.Expr.{Expr}
use Rattle.expressions.specs.declared.expression.Expr.TheVariants as exprs
use Rattle.expressions.specs.Canonical.{canonical, cron_text, days_text, set_text, week_text}
use Rattle.expressions.specs.Sets.{has_value, has_year}
use Rattle.expressions.specs.CronItems as cron
use Rattle.expressions.specs.CronItems.{set_of}
use Rattle.expressions.specs.Pieces.{words}
use Rattle.expressions.specs.Spelling.{Fields, IsValidExpression, SpellFields, Spells, SpellsCron, SpellsField}
use Rattle.expr_grammar.proofs.DaysBack.{DaysBack, days_back}
use Rattle.expr_grammar.proofs.ItemKinds.{in_plain, in_field, plain_has}
use Rattle.expr_grammar.proofs.LackLaws.{AllFilled, AllLack, joined_bare, words_joined}
use Rattle.expr_grammar.proofs.RateBack.{rate_back}
use Rattle.expr_grammar.proofs.RunLaws.{run_item}
use Rattle.expr_grammar.proofs.SetLaws.{AllInRange, rows_in_range}
use Rattle.expr_grammar.proofs.SetsBack.{FieldBack, YearsBack, field_back, years_back}

-- the words of the six fields
record SixWords (f : Fields) : Type 0 where
  minutes : List ℕ
  hours : List ℕ
  days : List ℕ
  months : List ℕ
  week : List ℕ
  years : List ℕ
  minutes_is : SpellsField cron.minutes minutes f.minutes
  hours_is : SpellsField cron.hours hours f.hours
  days_is : SpellsField cron.day_of_month days f.days
  months_is : SpellsField cron.month months f.months
  week_is : SpellsField cron.day_of_week week f.week
  years_is : SpellsField cron.year years f.years

six_words : (all : List (List ℕ)) (f : Fields) → SpellFields all f → SixWords f
six_words [] f are = absurd are
six_words (a ∷ []) f are = absurd are
six_words (a ∷ b ∷ []) f are = absurd are
six_words (a ∷ b ∷ c ∷ []) f are = absurd are
six_words (a ∷ b ∷ c ∷ d ∷ []) f are = absurd are
six_words (a ∷ b ∷ c ∷ d ∷ e ∷ []) f are = absurd are
six_words (a ∷ b ∷ c ∷ d ∷ e ∷ g ∷ []) f are = record {
  minutes = a;
  hours = b;
  days = c;
  months = d;
  week = e;
  years = g;
  minutes_is = are.0;
  hours_is = are.1;
  days_is = are.2;
  months_is = are.3;
  week_is = are.4;
  years_is = are.5;
}
six_words (a ∷ b ∷ c ∷ d ∷ e ∷ g ∷ h ∷ more) f are = absurd are

-- a set of a field without rules of days is printed and read back
plain_back : (field : cron.Field) (word : List ℕ) (all : List cron.Item) (set : ℕ) → in_field field ≡ in_plain → cron.least field ≤ 7 → SpellsField field word all →
    set ≡ set_of field all → FieldBack field set
plain_back field word all set plain week spelled is =
    let in_range = rows_in_range field _ all spelled.rows in
    field_back field set all is week in_range (plain_has field word all plain spelled.rows in_range)

cron_whole : (minutes hours days months week years : List ℕ) →
    codes "cron(" ++ minutes ++ codes " " ++ hours ++ codes " " ++ days ++ codes " " ++ months ++ codes " " ++ week ++ codes " " ++ years ++ codes ")"
    ≡ codes "cron(" ++ join_with_byte 32 (minutes ∷ hours ∷ days ∷ months ∷ week ∷ years ∷ []) ++ codes ")"
cron_whole minutes hours days months week years = simp append_assoc

-- a cron that some text spells is spelled by what is printed of it
cron_back : (text : List ℕ) (sets : CronSets) → SpellsCron text sets → SpellsCron (cron_text sets) sets
cron_back text sets s = record {
  inner = join_with_byte 32 (minutes_text ∷ others);
  encloses = record {
    whole = cron_whole minutes_text hours_text (days_text sets.days) months_text (week_text sets.days) years_text;
    bare = joined_bare minutes_text hours_text more lack filled;
  };
  fields = fields;
  spelled = rw (words_joined minutes_text others lack filled)
      (minutes.back.spelled, hours.back.spelled, days.day_text.spelled, months.back.spelled, days.week_day_text.spelled, years.back.spelled);
  days = days.is;
  gathered = λ t. record {
    minutes = minutes.same t;
    hours = hours.same t;
    days = sets.days;
    months = months.same t;
    years_low = years.low t;
    years_high = years.high t;
  };
} where
  six : SixWords s.fields
  six = six_words (words s.inner) s.fields s.spelled

  minutes : FieldBack cron.minutes sets.minutes
  minutes = plain_back cron.minutes six.minutes s.fields.minutes sets.minutes refl (lit≤ tt) six.minutes_is (ap (λ x. x.minutes) s.gathered)

  hours : FieldBack cron.hours sets.hours
  hours = plain_back cron.hours six.hours s.fields.hours sets.hours refl (lit≤ tt) six.hours_is (ap (λ x. x.hours) s.gathered)

  months : FieldBack cron.month sets.months
  months = plain_back cron.month six.months s.fields.months sets.months refl (lit≤ tt) six.months_is (ap (λ x. x.months) s.gathered)

  days : DaysBack sets.days
  days = days_back six.days six.week s.fields.days s.fields.week sets.days six.days_is six.week_is s.days

  years_in_range : AllInRange cron.year s.fields.years
  years_in_range = rows_in_range cron.year _ s.fields.years six.years_is.rows

  years : YearsBack sets
  years =
      years_back sets s.fields.years (ap (λ x. x.years_low) s.gathered) (ap (λ x. x.years_high) s.gathered) years_in_range
      (plain_has cron.year six.years s.fields.years refl six.years_is.rows years_in_range)

  fields : Fields
  fields = record {
    minutes = map run_item (minutes.back.first ∷ minutes.back.more);
    hours = map run_item (hours.back.first ∷ hours.back.more);
    days = days.days;
    months = map run_item (months.back.first ∷ months.back.more);
    week = days.week;
    years = map run_item (years.back.first ∷ years.back.more);
  }

  minutes_text : List ℕ
  minutes_text = set_text cron.minutes (has_value sets.minutes)

  hours_text : List ℕ
  hours_text = set_text cron.hours (has_value sets.hours)

  months_text : List ℕ
  months_text = set_text cron.month (has_value sets.months)

  years_text : List ℕ
  years_text = set_text cron.year (has_year sets)

  more : List (List ℕ)
  more = days_text sets.days ∷ months_text ∷ week_text sets.days ∷ years_text ∷ []

  others : List (List ℕ)
  others = hours_text ∷ more

  lack : AllLack 32 (minutes_text ∷ others)
  lack =
      (minutes.back.lacks, (hours.back.lacks, (days.day_text.lacks, (months.back.lacks, (days.week_day_text.lacks, (years.back.lacks, tt))))))

  filled : AllFilled (minutes_text ∷ others)
  filled =
      (minutes.back.filled, (hours.back.filled, (days.day_text.filled, (months.back.filled, (days.week_day_text.filled, (years.back.filled, tt))))))

-- the canonical spelling of an expression that some text spells
pub canonical_spells : (expr : Expr) → IsValidExpression expr → Spells (canonical expr) expr
unfolding canonical
canonical_spells (exprs.At civil) valid = (valid.spells.0, refl)
canonical_spells (exprs.Rate count unit) valid = rate_back valid.text count unit valid.spells
canonical_spells (exprs.Cron sets) valid = cron_back valid.text sets valid.spells
