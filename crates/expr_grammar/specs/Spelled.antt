-- What a text spells, as a function: none for a text with a fault.
use Rattle.std.specs.Prelude.{ℕ, is_none, if◌then◌else◌, Option, Some, None, List, [], ◌∷◌, codes}
use Rattle.std.specs.List.{filter_map}
use Rattle.std.specs.Option.{option_map}
use Rattle.plain_words.specs.Bytes.{comma}
use Rattle.expressions.specs.declared.expression.DayRule.{DayRule}
use Rattle.expressions.specs.declared.expression.Expr.{Expr}
use Rattle.expressions.specs.declared.expression.Expr.TheVariants as exprs
use Rattle.expressions.specs.Pieces.{cut, inside, words}
use Rattle.expressions.specs.CronItems as cron
use Rattle.expressions.specs.CronItems.{Field, Item, row, both}
use Rattle.expressions.specs.Spelling.{Fields, count_of, unit_of, sets_of, give_no_rule, month_rule, week_rule}
use Rattle.expressions.specs.ExpressionFaults.{fault}
use Rattle.expr_grammar.specs.Reading.{civil_of}

-- the rate of two words
abbrev pub rate_of : List (List ℕ) → Option Expr
rate_of (value ∷ name ∷ []) = both (λ count unit. exprs.Rate count unit) (count_of value) (unit_of name)
rate_of other = None

-- the items of a word, cut at its commas
abbrev pub items_of : Field → List ℕ → List Item
items_of field word = filter_map (row field) (cut comma word)

-- the items of six words
abbrev pub fields_of : List (List ℕ) → Option Fields
fields_of (minutes ∷ hours ∷ days ∷ months ∷ week ∷ years ∷ []) = Some (record {
  minutes = items_of cron.minutes minutes;
  hours = items_of cron.hours hours;
  days = items_of cron.day_of_month days;
  months = items_of cron.month months;
  week = items_of cron.day_of_week week;
  years = items_of cron.year years;
})
fields_of other = None

-- the rule of the day field that has one
abbrev pub day_rule : Fields → DayRule
day_rule fields = if give_no_rule fields.week then month_rule fields.days else week_rule fields.week

-- the cron of six words
abbrev pub cron_of : List (List ℕ) → Option Expr
cron_of words = option_map (λ fields. exprs.Cron (sets_of fields (day_rule fields))) (fields_of words)

-- the expression by the form of its text: what `at(`, `rate(` and `cron(` enclose, where they open it
abbrev pub by_form : Option (List ℕ) → Option (List ℕ) → Option (List ℕ) → Option Expr
by_form (Some at) rate cron = Some (exprs.At (civil_of at))
by_form None (Some rate) cron = rate_of (words rate)
by_form None None (Some cron) = cron_of (words cron)
by_form None None None = None

-- the expression that a text spells
unfoldable pub spelled : List ℕ → Option Expr
spelled text =
    if is_none (fault text) then by_form (inside (codes "at(") text) (inside (codes "rate(") text) (inside (codes "cron(") text)
    else None
