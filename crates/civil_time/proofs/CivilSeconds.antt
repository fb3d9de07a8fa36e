-- Civil seconds of the years 1970 to 2199 and their numbers: how far they go, and that each number has one.
use Rattle.std.proofs.Common.{◌≡◌, ℕ, ◌<◌, ◌≤◌, ℤ, pos, ◌<ℤ◌, ◌≤ℤ◌, refl, sym, subst, ap, ◌∙◌, arith, unsigned_abs}
use Rattle.std.proofs.lemmas.Int.{by_lt_z}
use Rattle.jiff_core.specs.Calendar.{IsCivilDate as IsJiffDate, day_count, days_from_civil, days_in_month}
use Rattle.jiff_core.specs.declared.civil.date.Date.{Date}
use Rattle.jiff_core.proofs.SignedLemmas.{signed_arith}
use Rattle.jiff_core.proofs.MarchLemmas.{day_count-early}
use Rattle.jiff_core.proofs.CalendarLemmas.{day_count-epoch, day_count-lt_year, day_count-later_year, day_count-day_of_year, days_from_civil-day_count}
use Rattle.plain_words.specs.Moments.{last_moment}
use Rattle.expressions.specs.declared.expression.Civil.{Civil}
use Rattle.cron_search.specs.CivilTime.{IsCivilDate, IsCivilSecond, day_number, civil_second}
use Rattle.cron_search.proofs.DayNumbers.{day_number-count, not_negative}
use Rattle.cron_search.proofs.InTime.{library_date}

-- the day count of 2200-01-01
count_2200 : day_count (pos 2200) 1 1 ≡ 4_455_959
count_2200 = day_count-early (pos 2200) 12199 1 1 refl (omega arith) (omega arith) (omega arith)

-- the number of 2199-12-31
abbrev pub last_day : ℕ
last_day = 84_005

day_number-high : (y m d : ℕ) → IsCivilDate y m d → day_number y m d ≤ last_day
day_number-high y m d day =
    let before = day_count-lt_year (pos y) m d (pos 2200) 1 1 (library_date y m d day) (omega arith)
    (let high = day.to_2199 in omega (arith, signed_arith)) in
    omega (arith, count_2200, day_number-count y m d day.from_1970 day.day_low)

-- no civil second comes after the last moment
pub civil_second-high : (d : Civil) → IsCivilSecond d → civil_second d ≤ last_moment
civil_second-high d real =
    omega (arith, real.hour, real.minute, real.second, day_number-high d.year d.month d.day real.date)

-- a day from 1970-01-01 on is of no year before
pub from_1970 : (y : ℤ) (m d : ℕ) → IsJiffDate y m d → 4_371_953 ≤ day_count y m d → pos 1970 ≤ℤ y
from_1970 y m d date low =
    by_lt_z y (pos 1970)
    (λ lt. absurd (omega (arith, day_count-epoch, day_count-lt_year y m d (pos 1970) 1 1 date (omega arith) lt)))
    (λ le. le)

-- a day before 2200-01-01 is of no year after
pub to_2199 : (y : ℤ) (m d : ℕ) → IsJiffDate y m d → day_count y m d < 4_455_959 → y <ℤ pos 2200
to_2199 y m d date high =
    by_lt_z y (pos 2200) (λ lt. lt)
    (λ le. by_lt_z (pos 2200) y
    (λ lt. absurd (omega (arith, count_2200, day_count-later_year (pos 2200) y (omega (arith, signed_arith)) lt, day_count-day_of_year y m d date.2.0)))
    (λ ge. let same : y ≡ pos 2200 = omega (arith, signed_arith) in
    let moved : day_count y 1 1 ≡ day_count (pos 2200) 1 1 = ap (λ x. day_count x 1 1) same in
    absurd (omega (arith, count_2200, day_count-day_of_year y m d date.2.0))))

-- the year of a day among those numbers
pub year_within : (y : ℤ) (m d number : ℕ) → IsJiffDate y m d → days_from_civil y m d ≡ pos number → number ≤ last_day → (pos 1970 ≤ℤ y) × (y <ℤ pos 2200)
year_within y m d number date is high =
    let counted = days_from_civil-day_count y m d in
    (from_1970 y m d date (omega (arith, signed_arith)), to_2199 y m d date (omega (arith, signed_arith)))

-- what is known of a day of the library by its number
pub record IsNumbered (date : Date) (number year : ℕ) : Type 0 where
  pub same : date.year ≡ pos year
  pub real : IsCivilDate year date.month date.day
  pub value : day_number year date.month date.day ≡ number

pub numbered : (date : Date) (number : ℕ) → days_from_civil date.year date.month date.day ≡ pos number → number ≤ last_day → IsNumbered date number (unsigned_abs date.year)
numbered date number is high =
    let within = year_within date.year date.month date.day number (date.year_in, date.month_in, date.day_in) is high in
    let same : date.year ≡ pos (unsigned_abs date.year) = not_negative date.year (omega (arith, signed_arith)) in
    let day : date.day ≤ days_in_month (pos (unsigned_abs date.year)) date.month =
    subst (λ y. date.day ≤ days_in_month y date.month) same date.day_in.1 in
    let moved : days_from_civil (pos (unsigned_abs date.year)) date.month date.day ≡ pos number =
    ap (λ y. days_from_civil y date.month date.day) (sym same) ∙ is in
    record {
      same = same;
      real = record {
        from_1970 = omega (arith, signed_arith);
        to_2199 = omega (arith, signed_arith);
        month_low = date.month_in.0;
        month_high = date.month_in.1;
        day_low = date.day_in.0;
        day_high = day;
      };
      value = ap unsigned_abs moved;
    }
