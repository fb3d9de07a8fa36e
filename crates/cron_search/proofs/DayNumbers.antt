-- How the numbers of days go up with day, month and year, and the weekday with the day.
use Rattle.std.proofs.Common.{ℤ, negsuc, inl, inr, ◌≡◌, ℕ, ◌+◌, ◌≤◌, refl, arith, pos, ◌≤ℤ◌, unsigned_abs}
use Rattle.std.proofs.lemmas.Bool.{cases_lt}
use Rattle.jiff_core.specs.Calendar.{day_count, days_from_civil}
use Rattle.jiff_core.proofs.SignedLemmas.{signed_arith}
use Rattle.jiff_core.proofs.CalendarLemmas.{day_count-epoch, days_from_civil-day_count, day_count-day_of_year, day_count-later_year}
use Rattle.cron_search.specs.CivilTime.{day_number}

-- no year from 1970 on begins before 1970
year_start : (y : ℕ) → 1970 ≤ y → 4_371_953 ≤ day_count (pos y) 1 1
year_start y low =
    elim (cases_lt 1970 y) [
      | inl lt ↦ omega (arith, signed_arith, day_count-epoch, day_count-later_year (pos 1970) (pos y) (omega (arith, signed_arith)) (omega (arith, signed_arith)))
      | inr ge ↦ let same : y ≡ 1970 = omega arith in rw same (omega (arith, day_count-epoch))
    ]

pub not_negative : (z : ℤ) → pos 0 ≤ℤ z → z ≡ pos (unsigned_abs z)
not_negative (pos n) h = refl
not_negative (negsuc n) h = absurd (omega (arith, signed_arith))

-- from 1970 on no day's number is negative
pub days_from_civil-day_number : (y m d : ℕ) → 1970 ≤ y → 1 ≤ d → days_from_civil (pos y) m d ≡ pos (day_number y m d)
days_from_civil-day_number y m d low first =
    not_negative _ (omega (arith, signed_arith, days_from_civil-day_count (pos y) m d, day_count-day_of_year (pos y) m d first, year_start y low))

-- a day number is the library's count less that of 1970-01-01
pub day_number-count : (y m d : ℕ) → 1970 ≤ y → 1 ≤ d → day_number y m d + 4_371_953 ≡ day_count (pos y) m d
day_number-count y m d low first =
    omega (arith, signed_arith, days_from_civil-day_count (pos y) m d, days_from_civil-day_number y m d low first)
