-- The days counted one by one are those of jiff's calendar.
use Rattle.std.proofs.Common.{◌≡◌, ℕ, zero, suc, ◌+◌, ◌<◌, ◌≤◌, inl, inr, sym, ◌∙◌, arith, pos}
use Rattle.std.proofs.lemmas.Bool.Decides.{leb_tells}
use Rattle.jiff_core.specs.declared.civil.date.Date.{Date}
use Rattle.jiff_core.specs.Calendar.{days_from_civil, days_in_month, IsCivilDate}
use Rattle.jiff_core.specs.Date.{epoch_day}
use Rattle.jiff_core.proofs.SignedLemmas.{signed_arith}
use Rattle.jiff_core.proofs.CalendarLemmas.{days_in_month_bounds}
use Rattle.jiff_core.proofs.DateLemmas.{days_from_civil-day, days_from_civil-next_month, days_from_civil-next_year, days_from_civil-max, epoch_day_injective}
use Rattle.target_link.specs.Time.{Day, day_after, day_of}

-- a real day with this number, counted from 1970-01-01
pub record IsNumbered (number : ℕ) (d : Day) : Type 0 where
  pub real : IsCivilDate (pos d.year) d.month d.day
  pub number_is : days_from_civil (pos d.year) d.month d.day ≡ pos number

next_in_month : (n : ℕ) (d : Day) → d.day < days_in_month (pos d.year) d.month → IsNumbered n d → IsNumbered (suc n) (record d { day = d.day + 1 })
next_in_month n d here i = record {
  real = (i.real.0, i.real.1, (omega arith, omega arith));
  number_is = omega (arith, signed_arith, i.number_is, days_from_civil-day (pos d.year) d.month (d.day + 1) d.day (omega arith) i.real.2.0);
}

next_month : (n : ℕ) (d : Day) → days_in_month (pos d.year) d.month ≤ d.day → d.month < 12 → IsNumbered n d → IsNumbered (suc n) (record { year = d.year; month = d.month + 1; day = 1 })
next_month n d last here i =
    let long = days_in_month_bounds (pos d.year) (d.month + 1) in
    record {
      real = (i.real.0, (omega arith, omega arith), (omega arith, omega arith));
      number_is = omega (arith, signed_arith, i.number_is, days_from_civil-next_month (pos d.year) d.month d.day i.real.1.0 (omega arith));
    }

not_last_year : (n year : ℕ) → n < 2_932_896 → year ≤ 9999 → days_from_civil (pos year) 12 31 ≡ pos n → year < 9999
not_last_year n year h low number =
    elim (leb_tells (suc year) 9999) [
      | inl (is, here) ↦ omega arith
      | inr (is, here) ↦
          let last : year ≡ 9999 = omega arith in
          absurd (omega (arith, signed_arith, rw last at number, days_from_civil-max))
    ]

next_year : (n : ℕ) (d : Day) → n < 2_932_896 → days_in_month (pos d.year) d.month ≤ d.day → 12 ≤ d.month → IsNumbered n d → IsNumbered (suc n) (record { year = d.year + 1; month = 1; day = 1 })
next_year n d h last december i =
    let month : d.month ≡ 12 = omega arith in
    let long : 31 ≤ d.day = rw month at last in
    let short : d.day ≤ 31 = rw month at i.real.2.1 in
    let day : d.day ≡ 31 = omega arith in
    let number : days_from_civil (pos d.year) 12 31 ≡ pos n = rw (month, day) at i.number_is in
    let later = days_from_civil-next_year (pos d.year) (pos (d.year + 1)) (omega (arith, signed_arith)) (omega (arith, signed_arith)) in
    let below : d.year < 9999 = not_last_year n d.year h (omega (arith, signed_arith, i.real.0)) number in
    record {
      real = ((omega (arith, signed_arith), omega (arith, signed_arith)), (omega arith, omega arith), (omega arith, omega arith));
      number_is = omega (arith, signed_arith, number, later);
    }

day_after-numbered : (n : ℕ) (d : Day) → n < 2_932_896 → IsNumbered n d → IsNumbered (suc n) (day_after d)
day_after-numbered n d h i =
    elim (leb_tells (suc d.day) (days_in_month (pos d.year) d.month)) [
      | inl (is, here) ↦ rw is (next_in_month n d here i)
      | inr (is, last) ↦ elim (leb_tells (suc d.month) 12) [
        | inl (early, here) ↦ rw (is, early) (next_month n d (omega arith) here i)
        | inr (late, december) ↦ rw (is, late) (next_year n d h (omega arith) (omega arith) i)
      ]
    ]

first_day : days_from_civil (pos 1970) 1 1 ≡ pos 0
unfolding days_from_civil
first_day = omega (arith, signed_arith)

pub day_of-numbered : (n : ℕ) → n ≤ 2_932_896 → IsNumbered n (day_of n)
unfolding day_of
day_of-numbered zero h = record { real = ((omega (arith, signed_arith), omega (arith, signed_arith)), (omega arith, omega arith), (omega arith, omega arith)); number_is = first_day }
day_of-numbered (suc n) h = day_after-numbered n (day_of n) (omega arith) (day_of-numbered n (omega arith))

-- a date of jiff with a day's number is that day
pub date_is : (d : Date) (n : ℕ) → n ≤ 2_932_896 → epoch_day d ≡ pos n →
    (d.year ≡ pos (day_of n).year) × (d.month ≡ (day_of n).month) × (d.day ≡ (day_of n).day)
date_is d n h e =
    let i = day_of-numbered n h in
    let other : Date = record {
      year = pos (day_of n).year;
      month = (day_of n).month;
      day = (day_of n).day;
      year_in = i.real.0;
      month_in = i.real.1;
      day_in = i.real.2;
    } in
    epoch_day_injective d other (e ∙ sym i.number_is)
