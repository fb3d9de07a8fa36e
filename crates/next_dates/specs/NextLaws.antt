-- What the next instant of an incarnation of a legal history says of its occurrences that have no entry.
use Rattle.std.specs.Prelude.{◌≡◌, ℕ, ◌+◌, ◌≤◌, Some, None, []}
use Rattle.sched_plain.specs.declared.row.Row.{Row}
use Rattle.sched_plain.specs.declared.schedule.Schedule.{Schedule}
use Rattle.plain_words.specs.Lists.{head, last, nth, passing}
use Rattle.plain_words.specs.Moments.{last_moment}
use Rattle.expressions.specs.Calendar.{Calendar}
use Rattle.sched_plain.specs.History.{History}
use Rattle.sched_plain.specs.Changes.{changes_of}
use Rattle.sched_plain.specs.Rows.{rows_of, current_of}
use Rattle.sched_plain.specs.Zones.{read_under}
use Rattle.sched_plain.specs.Items.{Item, opened, items}
use Rattle.sched_plain.specs.Occurrences.{occurs, occurs_in}
use Rattle.sched_plain.specs.Marks.{unentered, cover}
use Rattle.sched_plain.specs.Legal.{IsLegal}
use Rattle.next_dates.specs.Dates.{come_by, IsLeast, from_on}
use Rattle.next_dates.specs.NextInstants.{next_instant}

-- the first occurrence up to a moment that has no entry is the next instant, where that has come
abbrev pub NextComes : Type 0
NextComes =
    (c : Calendar) (h : History) → IsLegal c h → (inc t : ℕ)
    → head (unentered c h inc t) ≡ come_by t (next_instant c h inc)

-- the next instant is the least occurrence from the first moment on that the entries do not reach
abbrev pub NextIsLeast : Type 0
NextIsLeast =
    (c : Calendar) (h : History) → IsLegal c h → (inc : ℕ)
    → IsLeast (from_on (cover h inc) (occurs_in c (items h inc))) (next_instant c h inc)

-- it is no later than the last moment
abbrev pub NextInTime : Type 0
NextInTime =
    (c : Calendar) (h : History) → IsLegal c h → (inc n : ℕ) → next_instant c h inc ≡ Some n → n ≤ last_moment

-- the last item of an incarnation is enough: the others end before the first moment that the entries do not reach
abbrev pub UnenteredOfLast : Type 0
UnenteredOfLast =
    (c : Calendar) (h : History) → IsLegal c h → (inc t : ℕ) (item : Item) → last (items h inc) ≡ Some item
    → unentered c h inc t ≡ passing (from_on (cover h inc) (occurs c item)) (t + 1)

-- where there is a next instant, what has no entry are the last item's occurrences from it on
abbrev pub UnenteredFromNext : Type 0
UnenteredFromNext =
    (c : Calendar) (h : History) → IsLegal c h → (inc t n : ℕ) (item : Item) → last (items h inc) ≡ Some item
    → next_instant c h inc ≡ Some n → unentered c h inc t ≡ passing (from_on n (occurs c item)) (t + 1)

-- where there is none, nothing is without an entry
abbrev pub NothingToCome : Type 0
NothingToCome =
    (c : Calendar) (h : History) → IsLegal c h → (inc t : ℕ) → next_instant c h inc ≡ None → unentered c h inc t ≡ []

-- the last item of a living schedule is that of its current content, which began at a first moment
pub record IsOfContent (h : History) (inc : ℕ) (row : Row) (content : Schedule) : Type 0 where
  pub first : ℕ
  pub reached : first ≤ cover h inc
  pub item : last (items h inc) ≡ Some (opened (read_under h content.zone) row.created.0 first content)

abbrev pub CurrentIsLast : Type 0
CurrentIsLast =
    (c : Calendar) (h : History) → IsLegal c h → (inc : ℕ) (row : Row) (content : Schedule)
    → nth (rows_of (changes_of h)) inc ≡ Some row → current_of row ≡ Some content → IsOfContent h inc row content
