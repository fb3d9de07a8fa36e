-- The day and the time of day of a fitting minute.
use Rattle.std.proofs.Common.{◌≡◌, ℕ, ◌≤◌, arith, true, false, ◌==◌, ◌&&◌, ◌≢◌, Option, Some, None, IfSome, IfNone}
use Rattle.std.proofs.lemmas.Bool.Decides.{nat_tests}
use Rattle.cron_search.proofs.Fitting.{day_small}
use Rattle.cron_search.specs.CivilTime.{IsCivilDate}
use Rattle.cron_search.specs.First.{IsFirst, HasNone}
use Rattle.cron_search.specs.Search.{IsFittingMinute}
use Rattle.cron_search.specs.Levels.{date_key, minute_key, IsFittingDate, IsFittingTime}
use Rattle.expressions.specs.declared.expression.Civil.{Civil}
use Rattle.expressions.specs.declared.expression.CronSets.{CronSets}
use Rattle.cron_search.specs.declared.date.Date.{Date}
use Rattle.cron_search.specs.declared.time.TimeOfDay.{TimeOfDay}

abbrev pub date_of : Civil → Date
date_of d = record { year = d.year; month = d.month; day = d.day }

abbrev pub time_of : Civil → TimeOfDay
time_of d = record { hour = d.hour; minute = d.minute }

pub fitting_date : (s : CronSets) (d : Civil) → IsFittingMinute s d → IsFittingDate s (date_of d)
fitting_date s d fit = record { real = fit.real.date; fits = let h = fit.fits in grind (arith, nat_tests) }

pub fitting_time : (s : CronSets) (d : Civil) → IsFittingMinute s d → IsFittingTime s (time_of d)
fitting_time s d fit =
    record { hour = fit.real.hour; minute = fit.real.minute; fits = let h = fit.fits in grind (arith, nat_tests) }

-- the first from a on is the first from b on, where b comes before a and no fitting minute between them
pub first_from : (s : CronSets) (a b : ℕ) (o : Option Civil) → b ≤ a → ((e : Civil) → IsFittingMinute s e → b ≤ minute_key e → a ≤ minute_key e) → IfSome o (IsFirst (IsFittingMinute s) minute_key a) → IfSome o (IsFirst (IsFittingMinute s) minute_key b)
first_from s a b (Some d) le reached first = record {
  has = first.has;
  after = omega (arith, first.after);
  least = λ e fit at. first.least e fit (reached e fit at);
}
first_from s a b None le reached first = tt

-- and none from a on is none from b on
pub none_from : (s : CronSets) (a b : ℕ) (o : Option Civil) → ((e : Civil) → IsFittingMinute s e → b ≤ minute_key e → a ≤ minute_key e) → IfNone o (HasNone (IsFittingMinute s) minute_key a) → IfNone o (HasNone (IsFittingMinute s) minute_key b)
none_from s a b (Some d) reached none = tt
none_from s a b None reached none = λ e fit at. none e fit (reached e fit at)

-- days that compare as equal have one place, and others have two
pub same_place : (a b : Date) → true ≡ ((a.year == b.year) && ((a.month == b.month) && (a.day == b.day))) → date_key a ≡ date_key b
same_place a b same = grind (arith, nat_tests)

pub other_place : (a b : Date) → false ≡ ((a.year == b.year) && ((a.month == b.month) && (a.day == b.day))) → IsCivilDate a.year a.month a.day → IsCivilDate b.year b.month b.day → date_key a ≢ date_key b
other_place a b other one two same =
    let small = day_small a.year a.month a.day one in
    let small_too = day_small b.year b.month b.day two in
    let year : a.year ≡ b.year = omega (arith, one.month_high, two.month_high) in
    let month : a.month ≡ b.month = omega arith in
    let day : a.day ≡ b.day = omega arith in
    grind (arith, nat_tests)
