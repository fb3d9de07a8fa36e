-- The items of a field as the code keeps them, in the words of the item table.
use Rattle.std.specs.Prelude.{◌≡◌, ◌≤◌, ◌<◌, ◌^◌, ℕ, ◌+◌, nat_le, Option, Some, List, [], ◌∷◌, length}
use Rattle.std.specs.List.{list_any}
use Rattle.std.specs.Option.{option_map}
use Rattle.plain_words.specs.Lists.{first_some, head}
use Rattle.expressions.specs.CronItems as cron
use Rattle.expressions.specs.Years.{first_year}
use Rattle.expressions.specs.Spelling.{SpellsField}
use Rattle.expr_grammar.specs.declared.field.Field.{Field}
use Rattle.expr_grammar.specs.declared.field.Field.TheVariants as fields
use Rattle.expr_grammar.specs.declared.item.Item.{Item}
use Rattle.expr_grammar.specs.declared.items.Items.{Items}
use Rattle.expr_grammar.specs.declared.item.Item.TheVariants as items

-- the field
abbrev pub field_of : Field → cron.Field
field_of fields.Minutes = cron.minutes
field_of fields.Hours = cron.hours
field_of fields.DayOfMonth = cron.day_of_month
field_of fields.Month = cron.month
field_of fields.DayOfWeek = cron.day_of_week
field_of fields.Year = cron.year

-- what the item means
abbrev pub item_of : Item → cron.Item
item_of (items.Values from to by) = cron.values from to by
item_of items.NoRule = cron.no_rule
item_of items.LastDay = cron.last_day
item_of items.Saturday = cron.saturday
item_of (items.NearWeekday n) = cron.near_weekday n
item_of (items.LastOf n) = cron.last_of n
item_of (items.Nth n k) = cron.nth_of n k

-- values lie at least one apart
abbrev pub HasStep : cron.Item → Type 0
HasStep (cron.values from to by) = 1 ≤ by
HasStep item = Unit {0}

-- `*` or a value with a step
abbrev pub stepped_row : cron.Field → ℕ → List ℕ → Option cron.Item
stepped_row field by text = first_some (cron.every_row field (Some by) text ∷ cron.on_row field (Some by) text ∷ [])

-- the first value of a field's set: bit i is that value and i
abbrev pub first_value : cron.Field → ℕ
first_value cron.year = first_year
first_value field = 0

-- what the items of a field give, as the code keeps it
pub record Summarizes (field : cron.Field) (kept : Items) (all : List cron.Item) : Type 0 where
  pub first : option_map item_of kept.first ≡ head all
  pub several : kept.several ≡ nat_le 2 (length all)
  pub alone : kept.alone ≡ list_any cron.stands_alone all
  pub low : kept.low ≡ cron.years_of (first_value field) all
  pub high : kept.high ≡ cron.years_of (first_value field + 128) all

-- the word spells items of the field, and this is what is kept of them
pub record IsRead (field : cron.Field) (word : List ℕ) (kept : Items) : Type 0 where
  pub all : List cron.Item
  pub spelled : SpellsField field word all
  pub summary : Summarizes field kept all

-- the numbers of an item are small
abbrev pub IsSmall : Option Item → Type 0
IsSmall (Some (items.NearWeekday n)) = n < 256
IsSmall (Some (items.LastOf n)) = n < 256
IsSmall (Some (items.Nth n k)) = (n < 256) × (k < 256)
IsSmall item = Unit {0}

-- a set of days has so few bits, and the numbers of what stands alone are small
pub record HasSmallRule (bits : ℕ) (kept : Items) : Type 0 where
  pub set : kept.low < 2 ^ bits
  pub first : IsSmall kept.first
