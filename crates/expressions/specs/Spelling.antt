-- What a text spells. Nothing here names a place or a fault.
use Rattle.std.specs.Prelude.{◌≡◌, ◌≤◌, ℕ, Bool, true, false, not, ◌&&◌, ◌||◌, ◌==◌, if◌then◌else◌, Option, Some, None, List, [], ◌∷◌, ◌++◌, length, slice_index, codes}
use Rattle.expressions.specs.declared.expression.CronSets.{CronSets}
use Rattle.expressions.specs.declared.expression.DayRule.{DayRule}
use Rattle.expressions.specs.declared.expression.DayRule.TheVariants as rules
use Rattle.expressions.specs.declared.expression.Expr.{Expr}
use Rattle.expressions.specs.declared.expression.Expr.TheVariants as exprs
use Rattle.expressions.specs.declared.expression.Unit.{Unit as RateUnit}
use Rattle.expressions.specs.declared.expression.Unit.TheVariants as units
use Rattle.std.specs.List.{list_any}
use Rattle.plain_words.specs.Lists.{first_some, when}
use Rattle.plain_words.specs.Bytes.{comma, digit_zero}
use Rattle.expressions.specs.Years.{first_year, upper_year}
use Rattle.expressions.specs.CivilSeconds.{is_civil, at_text}
use Rattle.expressions.specs.Pieces.{cut, words, has_bare_ends, same, is_number, number_of}
use Rattle.expressions.specs.CronItems as cron
use Rattle.expressions.specs.CronItems.{Field, Item, row, is_in_range, stands_alone, set_of, years_of}

-- the text is an opening, as "rate(", a text with no space at its ends, and the closing bracket
pub record Encloses (opening text inner : List ℕ) : Type 0 where
  pub whole : text ≡ opening ++ inner ++ codes ")"
  pub bare : has_bare_ends inner ≡ true

-- the count that the first word of a rate spells: one to six digits, the first of several no zero
abbrev pub count_of : List ℕ → Option ℕ
count_of word =
    if is_number 1 6 word && ((length word == 1) || not (slice_index word 0 == digit_zero)) then Some (number_of word) else None

-- the unit that the second word of a rate spells
abbrev pub unit_of : List ℕ → Option RateUnit
unit_of word = first_some (
    when (same word (codes "minute") || same word (codes "minutes")) units.Minute
    ∷ when (same word (codes "hour") || same word (codes "hours")) units.Hour
    ∷ when (same word (codes "day") || same word (codes "days")) units.Day
    ∷ [])

-- the two words of a rate
abbrev pub AreRateWords : List (List ℕ) → ℕ → RateUnit → Type 0
AreRateWords (value ∷ name ∷ []) count unit = (count_of value ≡ Some count) × (1 ≤ count) × (unit_of name ≡ Some unit)
AreRateWords other count unit = ⊥

-- the text spells the rate
pub record SpellsRate (text : List ℕ) (count : ℕ) (unit : RateUnit) : Type 0 where
  pub inner : List ℕ
  pub encloses : Encloses (codes "rate(") text inner
  pub spelled : AreRateWords (words inner) count unit

-- the piece is a row of the field's item table, with its numbers in range
pub record IsRow (field : Field) (piece : List ℕ) (item : Item) : Type 0 where
  pub is : row field piece ≡ Some item
  pub in_range : is_in_range field item ≡ true

-- each piece is a row, the items in the same order
abbrev pub AreRows : Field → List (List ℕ) → List Item → Type 0
AreRows field [] [] = Unit {0}
AreRows field (piece ∷ pieces) (item ∷ items) = IsRow field piece item × AreRows field pieces items
AreRows field [] (item ∷ items) = ⊥
AreRows field (piece ∷ pieces) [] = ⊥

-- of several items none must stand alone
abbrev pub may_stand_together : List Item → Bool
may_stand_together [] = true
may_stand_together (item ∷ []) = true
may_stand_together (item ∷ next ∷ more) = not (list_any stands_alone (item ∷ next ∷ more))

-- the word, cut at its commas, spells these items of the field
pub record SpellsField (field : Field) (word : List ℕ) (items : List Item) : Type 0 where
  pub rows : AreRows field (cut comma word) items
  pub together : may_stand_together items ≡ true

-- the items of the six fields
pub record Fields : Type 0 where
  pub minutes : List Item
  pub hours : List Item
  pub days : List Item
  pub months : List Item
  pub week : List Item
  pub years : List Item

-- the six words spell the items of the six fields
abbrev pub SpellFields : List (List ℕ) → Fields → Type 0
SpellFields (minutes ∷ hours ∷ days ∷ months ∷ week ∷ years ∷ []) f =
    SpellsField cron.minutes minutes f.minutes × SpellsField cron.hours hours f.hours
    × SpellsField cron.day_of_month days f.days × SpellsField cron.month months f.months
    × SpellsField cron.day_of_week week f.week × SpellsField cron.year years f.years
SpellFields other f = ⊥

-- the items of a day field give no rule: the field is `?`
abbrev pub give_no_rule : List Item → Bool
give_no_rule (cron.no_rule ∷ more) = true
give_no_rule items = false

-- the rule of the items of day of month
abbrev pub month_rule : List Item → DayRule
month_rule (cron.last_day ∷ more) = rules.LastDay
month_rule (cron.near_weekday n ∷ more) = rules.NearWeekday n
month_rule items = rules.OfMonth (set_of cron.day_of_month items)

-- the rule of the items of day of week
abbrev pub week_rule : List Item → DayRule
week_rule (cron.last_of n ∷ more) = rules.LastOf n
week_rule (cron.nth_of n k ∷ more) = rules.Nth n k
week_rule items = rules.OfWeek (set_of cron.day_of_week items)

-- exactly one of the day fields is `?`, and the other gives the rule
abbrev pub IsDayRule : List Item → List Item → DayRule → Type 0
IsDayRule days week rule =
    ((give_no_rule days && give_no_rule week) ≡ false) × ((give_no_rule days || give_no_rule week) ≡ true)
    × (rule ≡ (if give_no_rule week then month_rule days else week_rule week))

-- the sets of the items of the fields, with a day rule
abbrev pub sets_of : Fields → DayRule → CronSets
sets_of f rule = record {
  minutes = set_of cron.minutes f.minutes;
  hours = set_of cron.hours f.hours;
  days = rule;
  months = set_of cron.month f.months;
  years_low = years_of first_year f.years;
  years_high = years_of upper_year f.years;
}

-- the text spells the sets
pub record SpellsCron (text : List ℕ) (sets : CronSets) : Type 0 where
  pub inner : List ℕ
  pub encloses : Encloses (codes "cron(") text inner
  pub fields : Fields
  pub spelled : SpellFields (words inner) fields
  pub days : IsDayRule fields.days fields.week sets.days
  pub gathered : sets ≡ sets_of fields sets.days

-- the text spells the expression
abbrev pub Spells : List ℕ → Expr → Type 0
Spells text (exprs.At civil) = (is_civil civil ≡ true) × (text ≡ at_text civil)
Spells text (exprs.Rate count unit) = SpellsRate text count unit
Spells text (exprs.Cron sets) = SpellsCron text sets

-- an expression is valid where some text spells it
pub record IsValidExpression (expression : Expr) : Type 0 where
  pub text : List ℕ
  pub spells : Spells text expression
