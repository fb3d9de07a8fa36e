-- The six fields of a cron as they are read.
use Rattle.std.specs.Prelude.{◌≡◌, ℕ, not, ◌&&◌, ◌||◌, Bool, true, false, if◌then◌else◌, Option, Some, List, [], ◌∷◌}
use Rattle.std.specs.Option.{option_map}
use Rattle.expressions.specs.declared.expression.CronSets.{CronSets}
use Rattle.expressions.specs.declared.expression.DayRule.{DayRule}
use Rattle.expressions.specs.declared.expression.DayRule.TheVariants as rules
use Rattle.plain_words.specs.Lists.{first_some, when}
use Rattle.expressions.specs.Pieces as pieces
use Rattle.expressions.specs.CronItems as cron
use Rattle.expressions.specs.Spelling as spelling
use Rattle.expressions.specs.Spelling.{SpellFields, IsDayRule, sets_of}
use Rattle.expressions.specs.ExpressionFaults.{Fault, fault_at, field_fault}
use Rattle.expr_grammar.specs.declared.cron.AllItems.{AllItems}
use Rattle.expr_grammar.specs.declared.cron.FieldRead.{FieldRead}
use Rattle.expr_grammar.specs.declared.cron.Fields.{Fields}
use Rattle.expr_grammar.specs.declared.items.Items.{Items}
use Rattle.expr_grammar.specs.Answers.{Answers}
use Rattle.expr_grammar.specs.Items.{IsRead, item_of}
use Rattle.expr_grammar.specs.WordsLeft.{piece_of, texts}

-- the word is read as this field
abbrev pub ReadAs : cron.Field → FieldRead → Type 0
ReadAs field read = Answers read.items (field_fault field (piece_of read.word)) (IsRead field read.word.text.now)

-- each word is read as its field
pub record EachRead (fields : Fields) : Type 0 where
  pub minutes : ReadAs cron.minutes fields.minutes
  pub hours : ReadAs cron.hours fields.hours
  pub days : ReadAs cron.day_of_month fields.days
  pub months : ReadAs cron.month fields.months
  pub week : ReadAs cron.day_of_week fields.week
  pub years : ReadAs cron.year fields.years

-- the words of the six fields
abbrev pub words_of : Fields → List pieces.Piece
words_of fields =
    piece_of fields.minutes.word ∷ piece_of fields.hours.word ∷ piece_of fields.days.word
    ∷ piece_of fields.months.word ∷ piece_of fields.week.word ∷ piece_of fields.years.word ∷ []

-- the faults of the six fields
abbrev pub faults_of : Fields → List (Option Fault)
faults_of fields =
    field_fault cron.minutes (piece_of fields.minutes.word) ∷ field_fault cron.hours (piece_of fields.hours.word)
    ∷ field_fault cron.day_of_month (piece_of fields.days.word) ∷ field_fault cron.month (piece_of fields.months.word)
    ∷ field_fault cron.day_of_week (piece_of fields.week.word) ∷ field_fault cron.year (piece_of fields.years.word) ∷ []

-- the six words spell what is kept of their items
pub record AllRead (fields : Fields) (all : AllItems) : Type 0 where
  pub minutes : IsRead cron.minutes fields.minutes.word.text.now all.minutes
  pub hours : IsRead cron.hours fields.hours.word.text.now all.hours
  pub days : IsRead cron.day_of_month fields.days.word.text.now all.days
  pub months : IsRead cron.month fields.months.word.text.now all.months
  pub week : IsRead cron.day_of_week fields.week.word.text.now all.week
  pub years : IsRead cron.year fields.years.word.text.now all.years

-- the words spell the sets
pub record WordsSpell (words : List pieces.Piece) (sets : CronSets) : Type 0 where
  pub fields : spelling.Fields
  pub spelled : SpellFields (texts words) fields
  pub days : IsDayRule fields.days fields.week sets.days
  pub gathered : sets ≡ sets_of fields sets.days

-- the first item gives no rule
abbrev pub opens_no_rule : Option cron.Item → Bool
opens_no_rule (Some cron.no_rule) = true
opens_no_rule item = false

-- the rule of day of month, by the first item and the set
abbrev pub month_rule_by : Option cron.Item → ℕ → DayRule
month_rule_by (Some cron.last_day) set = rules.LastDay
month_rule_by (Some (cron.near_weekday n)) set = rules.NearWeekday n
month_rule_by item set = rules.OfMonth set

-- the rule of day of week, by the first item and the set
abbrev pub week_rule_by : Option cron.Item → ℕ → DayRule
week_rule_by (Some (cron.last_of n)) set = rules.LastOf n
week_rule_by (Some (cron.nth_of n k)) set = rules.Nth n k
week_rule_by item set = rules.OfWeek set

-- the first of the items that are kept
abbrev pub first_of : Items → Option cron.Item
first_of kept = option_map item_of kept.first

-- the rule of two day fields
abbrev pub rule_by : Items → Items → DayRule
rule_by days week =
    if opens_no_rule (first_of week) then month_rule_by (first_of days) days.low else week_rule_by (first_of week) week.low

-- the sets of what is kept, with a day rule
abbrev pub sets_by : AllItems → DayRule → CronSets
sets_by all rule = record {
  minutes = all.minutes.low;
  hours = all.hours.low;
  days = rule;
  months = all.months.low;
  years_low = all.years.low;
  years_high = all.years.high;
}

-- the fault of two day fields, by whether each gives no rule
abbrev pub rules_fault : Bool → Bool → ℕ → Option Fault
rules_fault days week place = first_some (when (not (days || week)) (fault_at 5 place) ∷ when (days && week) (fault_at 6 place) ∷ [])
