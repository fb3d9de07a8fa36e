-- The occurrences of an incarnation: the instants, in the spans of its enabled items, at which it is to act.
use Rattle.std.specs.Prelude.{ℕ, ◌+◌, nat_le, nat_lt, Bool, true, ◌&&◌, Option, Some, None, List}
use Rattle.std.specs.List.{list_any}
use Rattle.expressions.specs.declared.expression.Expr.{Expr}
use Rattle.expressions.specs.declared.expression.Expr.TheVariants as exprs
use Rattle.sched_plain.specs.declared.schedule.Schedule.{Schedule}
use Rattle.sched_plain.specs.History.{History}
use Rattle.plain_words.specs.Moments.{last_moment}
use Rattle.plain_words.specs.Lists.{passing, any_passing}
use Rattle.sched_plain.specs.Items.{Item, items}
use Rattle.expressions.specs.Calendar.{Calendar}

-- not before the date, if there is one
abbrev pub not_before : Option ℕ → ℕ → Bool
not_before None instant = true
not_before (Some date) instant = nat_le date instant

-- not after the date, if there is one
abbrev pub not_after : Option ℕ → ℕ → Bool
not_after None instant = true
not_after (Some date) instant = nat_le instant date

-- within StartDate and EndDate, which an `at` does not look at
abbrev pub is_within_dates : Expr → Schedule → ℕ → Bool
is_within_dates (exprs.At civil) content instant = true
is_within_dates expr content instant = not_before content.start instant && not_after content.finish instant

-- the item has an occurrence at this instant
abbrev pub occurs : Calendar → Item → ℕ → Bool
occurs c item instant =
    item.content.enabled && nat_le item.first instant && nat_le instant item.last
    && is_within_dates item.content.expr item.content instant
    && c.at item.content.expr item.bytes item.anchor instant

-- one of the items has an occurrence at this instant
abbrev pub occurs_in : Calendar → List Item → ℕ → Bool
occurs_in c all instant = list_any (λ item. occurs c item instant) all

-- the occurrences of these items below a bound, rising
unfoldable pub occ_below : Calendar → List Item → ℕ → List ℕ
occ_below c all bound = passing (occurs_in c all) bound

-- the occurrences of an incarnation up to a moment
abbrev pub occ : Calendar → History → ℕ → ℕ → List ℕ
occ c h inc t = occ_below c (items h inc) (t + 1)

-- these items have an occurrence later than a moment
unfoldable pub has_later : Calendar → List Item → ℕ → Bool
has_later c all t = any_passing (λ instant. nat_lt t instant && occurs_in c all instant) (last_moment + 1)
