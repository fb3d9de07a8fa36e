-- The order by year, month, day, hour, minute and second is the order of time.
use Rattle.std.proofs.Common.{◌≡◌, ℕ, ◌+◌, ◌*◌, ◌<◌, ◌≤◌, inl, inr, arith, ap, ◌∙◌, pos, Option, Some, None, IfSome, IfNone}
use Rattle.std.proofs.lemmas.Bool.{cases_lt}
use Rattle.jiff_core.specs.Calendar.{day_count, IsCivilDate as IsJiffDate}
use Rattle.jiff_core.proofs.SignedLemmas.{signed_arith}
use Rattle.jiff_core.proofs.CalendarLemmas.{day_count-lt_year, day_count-lt_month, day_count-day}
use Rattle.cron_search.specs.CivilTime.{day_number, IsCivilDate, IsCivilSecond, civil_second}
use Rattle.cron_search.specs.Levels.{day_key, minute_key}
use Rattle.expressions.specs.declared.expression.Civil.{Civil}
use Rattle.expressions.specs.declared.expression.CronSets.{CronSets}
use Rattle.cron_search.specs.First.{IsFirst, HasNone}
use Rattle.cron_search.specs.Search.{IsFittingMinute, IsFirstFit, HasNoFit}
use Rattle.cron_search.proofs.DayNumbers.{day_number-count}
use Rattle.cron_search.proofs.Fitting.{day_small}

-- a day here is a day of the library's calendar
pub library_date : (y m d : ℕ) → IsCivilDate y m d → IsJiffDate (pos y) m d
library_date y m d day =
    ((omega (arith, signed_arith), omega (arith, signed_arith)), (day.month_low, day.month_high), (day.day_low, day.day_high))

-- a day with a lower place has a lower number
pub day_number-lt : (y m d z n e : ℕ) → IsCivilDate y m d → IsCivilDate z n e → day_key y m d < day_key z n e → day_number y m d < day_number z n e
day_number-lt y m d z n e day other lt =
    let small = day_small y m d day in
    let small_too = day_small z n e other in
    let first = day_number-count y m d day.from_1970 day.day_low in
    let second = day_number-count z n e other.from_1970 other.day_low in
    elim (cases_lt y z) [
      | inl before ↦ omega (arith, day_count-lt_year (pos y) m d (pos z) n e (library_date y m d day) other.day_low (omega (arith, signed_arith)))
      | inr year_ge ↦
          let same_year : z ≡ y = omega (arith, day.month_high, other.month_high) in
          let moved : day_count (pos z) n e ≡ day_count (pos y) n e = ap (λ x. day_count (pos x) n e) same_year in
          elim (cases_lt m n) [
            | inl before ↦ omega (arith, day_count-lt_month (pos y) m d n e (library_date y m d day) other.day_low before)
            | inr month_ge ↦
                let same_month : n ≡ m = omega arith in
                let moved_too : day_count (pos y) n e ≡ day_count (pos y) m e = ap (λ x. day_count (pos y) x e) same_month in
                omega (arith, day_count-day (pos y) m d e day.day_low other.day_low)
          ]
    ]

-- days with the same place are the same
pub day_number-same : (y m d z n e : ℕ) → IsCivilDate y m d → IsCivilDate z n e → day_key y m d ≡ day_key z n e → day_number y m d ≡ day_number z n e
day_number-same y m d z n e day other same =
    let small = day_small y m d day in
    let small_too = day_small z n e other in
    let year : y ≡ z = omega (arith, day.month_high, other.month_high) in
    let month : m ≡ n = omega arith in
    let of_month : d ≡ e = omega arith in
    ap (λ x. day_number x m d) year ∙ ap (λ x. day_number z x d) month ∙ ap (day_number z n) of_month

-- the place of a second: that of its minute, with room for 60 seconds
abbrev pub second_key : Civil → ℕ
second_key d = minute_key d * 60 + d.second

civil_second-lt : (a b : Civil) → IsCivilSecond a → IsCivilSecond b → second_key a < second_key b → civil_second a < civil_second b
civil_second-lt a b one two lt =
    elim (cases_lt (day_key a.year a.month a.day) (day_key b.year b.month b.day)) [
      | inl before ↦ omega (arith, one.hour, one.minute, one.second, day_number-lt a.year a.month a.day b.year b.month b.day one.date two.date before)
      | inr ge ↦ omega (arith, one.hour, one.minute, one.second, two.hour, two.minute, two.second, day_number-same a.year a.month a.day b.year b.month b.day one.date two.date (omega arith))
    ]

pub civil_second-le : (a b : Civil) → IsCivilSecond a → IsCivilSecond b → second_key a ≤ second_key b → civil_second a ≤ civil_second b
civil_second-le a b one two le =
    elim (cases_lt (day_key a.year a.month a.day) (day_key b.year b.month b.day)) [
      | inl before ↦ omega (arith, one.hour, one.minute, one.second, day_number-lt a.year a.month a.day b.year b.month b.day one.date two.date before)
      | inr ge ↦ omega (arith, one.hour, one.minute, one.second, two.hour, two.minute, two.second, day_number-same a.year a.month a.day b.year b.month b.day one.date two.date (omega arith))
    ]

pub second_key-le : (a b : Civil) → IsCivilSecond a → IsCivilSecond b → civil_second a ≤ civil_second b → second_key a ≤ second_key b
second_key-le a b one two le =
    elim (cases_lt (second_key b) (second_key a)) [
      | inl lt ↦ absurd (omega (arith, civil_second-lt b a two one lt))
      | inr ge ↦ ge
    ]

-- the first fitting minute by place, from the first whole minute at or after a second on, is the first in time
pub first_fit : (s : CronSets) (from : Civil) (start : ℕ) (o : Option Civil) → IsCivilSecond from → second_key from ≤ start * 60 → start * 60 < second_key from + 60 → IfSome o (IsFirst (IsFittingMinute s) minute_key start) → IfSome o (IsFirstFit s from)
first_fit s from start None real after near first = tt
first_fit s from start (Some d) real after near first = record {
  found = first.has;
  after = civil_second-le from d real first.has.real (omega (arith, first.has.whole, first.after));
  least = λ e fit le.
      let reached = second_key-le from e real fit.real le in
      civil_second-le d e first.has.real fit.real
      (omega (arith, first.has.whole, fit.whole, first.least e fit (omega (arith, fit.whole))));
}

pub no_fit : (s : CronSets) (from : Civil) (start : ℕ) (o : Option Civil) → IsCivilSecond from → start * 60 < second_key from + 60 → IfNone o (HasNone (IsFittingMinute s) minute_key start) → IfNone o (HasNoFit s from)
no_fit s from start (Some d) real near none = tt
no_fit s from start None real near none = λ e fit le.
    let reached = second_key-le from e real fit.real le in
    none e fit (omega (arith, fit.whole))
