-- What the definitions say of texts written out: what they spell, their canonical spelling, their first fault.
use Rattle.std.specs.Prelude.{◌≡◌, Some, None, [], ◌∷◌, ◌++◌, codes, refl}
use Rattle.std.proofs.Common.{lit≤}
use Rattle.std.specs.Fmt.{digits}
use Rattle.expressions.specs.declared.expression.Expr.TheVariants as exprs
use Rattle.expressions.specs.declared.expression.Unit.TheVariants as units
use Rattle.expressions.specs.CronItems as cron
use Rattle.expressions.specs.CronItems.{Field, Item, row, is_in_range, set_of, years_of}
use Rattle.expressions.specs.Spelling.{Spells}
use Rattle.expressions.specs.ExpressionFaults.{fault_at, fault}
use Rattle.expressions.specs.Canonical.{canonical, set_text}
use Rattle.expressions.specs.SpellingExamples.{every, one, half_past_two, first_weekday, second_tuesday, last_friday, at_runs}
use Rattle.expressions.specs.SpellingRows.{TextsSpell, CanonicalTexts, FirstFaults, NoFaults}

-- at 02:30 of each day
half_past_two-spelled : Spells (codes "cron(30 2 * * ? *)") (exprs.Cron half_past_two)
unfolding row set_of years_of every one half_past_two
half_past_two-spelled = record {
  inner = codes "30 2 * * ? *";
  encloses = record { whole = refl; bare = refl };
  fields = record {
    minutes = one 30;
    hours = one 2;
    days = every cron.day_of_month;
    months = every cron.month;
    week = cron.no_rule ∷ [];
    years = every cron.year;
  };
  spelled = (
    record { rows = (record { is = refl; in_range = refl }, tt); together = refl },
    record { rows = (record { is = refl; in_range = refl }, tt); together = refl },
    record { rows = (record { is = refl; in_range = refl }, tt); together = refl },
    record { rows = (record { is = refl; in_range = refl }, tt); together = refl },
    record { rows = (record { is = refl; in_range = refl }, tt); together = refl },
    record { rows = (record { is = refl; in_range = refl }, tt); together = refl },
  );
  days = (refl, refl, refl);
  gathered = refl;
}

half_past_two-canonical : canonical (exprs.Cron half_past_two) ≡ codes "cron(30 2 * * ? *)"
unfolding canonical digits set_text half_past_two
half_past_two-canonical = refl

first_weekday-spelled : Spells (codes "cron(0 9 1W AUG ? 2026)") (exprs.Cron first_weekday)
unfolding row set_of years_of every one first_weekday
first_weekday-spelled = record {
  inner = codes "0 9 1W AUG ? 2026";
  encloses = record { whole = refl; bare = refl };
  fields = record {
    minutes = one 0;
    hours = one 9;
    days = cron.near_weekday 1 ∷ [];
    months = one 8;
    week = cron.no_rule ∷ [];
    years = one 2026;
  };
  spelled = (
    record { rows = (record { is = refl; in_range = refl }, tt); together = refl },
    record { rows = (record { is = refl; in_range = refl }, tt); together = refl },
    record { rows = (record { is = refl; in_range = refl }, tt); together = refl },
    record { rows = (record { is = refl; in_range = refl }, tt); together = refl },
    record { rows = (record { is = refl; in_range = refl }, tt); together = refl },
    record { rows = (record { is = refl; in_range = refl }, tt); together = refl },
  );
  days = (refl, refl, refl);
  gathered = refl;
}

first_weekday-canonical : canonical (exprs.Cron first_weekday) ≡ codes "cron(0 9 1W 8 ? 2026)"
unfolding canonical digits set_text first_weekday
first_weekday-canonical = refl

second_tuesday-spelled : Spells (codes "cron(0 9 ? JAN 3#2 2026)") (exprs.Cron second_tuesday)
unfolding row set_of years_of every one second_tuesday
second_tuesday-spelled = record {
  inner = codes "0 9 ? JAN 3#2 2026";
  encloses = record { whole = refl; bare = refl };
  fields = record {
    minutes = one 0;
    hours = one 9;
    days = cron.no_rule ∷ [];
    months = one 1;
    week = cron.nth_of 3 2 ∷ [];
    years = one 2026;
  };
  spelled = (
    record { rows = (record { is = refl; in_range = refl }, tt); together = refl },
    record { rows = (record { is = refl; in_range = refl }, tt); together = refl },
    record { rows = (record { is = refl; in_range = refl }, tt); together = refl },
    record { rows = (record { is = refl; in_range = refl }, tt); together = refl },
    record { rows = (record { is = refl; in_range = refl }, tt); together = refl },
    record { rows = (record { is = refl; in_range = refl }, tt); together = refl },
  );
  days = (refl, refl, refl);
  gathered = refl;
}

second_tuesday-canonical : canonical (exprs.Cron second_tuesday) ≡ codes "cron(0 9 ? 1 3#2 2026)"
unfolding canonical digits set_text second_tuesday
second_tuesday-canonical = refl

last_friday-spelled : Spells (codes "cron(0 9 ? 1 fril 2026)") (exprs.Cron last_friday)
unfolding row set_of years_of every one last_friday
last_friday-spelled = record {
  inner = codes "0 9 ? 1 fril 2026";
  encloses = record { whole = refl; bare = refl };
  fields = record {
    minutes = one 0;
    hours = one 9;
    days = cron.no_rule ∷ [];
    months = one 1;
    week = cron.last_of 6 ∷ [];
    years = one 2026;
  };
  spelled = (
    record { rows = (record { is = refl; in_range = refl }, tt); together = refl },
    record { rows = (record { is = refl; in_range = refl }, tt); together = refl },
    record { rows = (record { is = refl; in_range = refl }, tt); together = refl },
    record { rows = (record { is = refl; in_range = refl }, tt); together = refl },
    record { rows = (record { is = refl; in_range = refl }, tt); together = refl },
    record { rows = (record { is = refl; in_range = refl }, tt); together = refl },
  );
  days = (refl, refl, refl);
  gathered = refl;
}

last_friday-canonical : canonical (exprs.Cron last_friday) ≡ codes "cron(0 9 ? 1 6L 2026)"
unfolding canonical digits set_text last_friday
last_friday-canonical = refl

-- rates are read with either form of the unit, and printed with the one that fits
day-spelled : Spells (codes "rate(1 days)") (exprs.Rate 1 units.Day)
day-spelled = record {
  inner = codes "1 days";
  encloses = record { whole = refl; bare = refl };
  spelled = (refl, lit≤ tt, refl);
}

hours-spelled : Spells (codes "rate(24   hour)") (exprs.Rate 24 units.Hour)
hours-spelled = record {
  inner = codes "24   hour";
  encloses = record { whole = refl; bare = refl };
  spelled = (refl, lit≤ tt, refl);
}

day-canonical : canonical (exprs.Rate 1 units.Day) ≡ codes "rate(1 day)"
unfolding canonical digits set_text
day-canonical = refl

hours-canonical : canonical (exprs.Rate 24 units.Hour) ≡ codes "rate(24 hours)"
unfolding canonical digits set_text
hours-canonical = refl

at_runs-canonical : canonical (exprs.Cron at_runs) ≡ codes "cron(0-2,30,58-59 * ? * 7 2097-2098)"
unfolding canonical digits set_text at_runs
at_runs-canonical = refl

-- first faults
fault_1 : fault (codes "cron(0 9 ? * 3#1,6#3 *)") ≡ Some (fault_at 4 13)
unfolding fault row
fault_1 = refl

fault_2 : fault (codes "cron(0 9 * * * *)") ≡ Some (fault_at 5 13)
unfolding fault row
fault_2 = refl

fault_3 : fault (codes "cron(0 9 ? * ? *)") ≡ Some (fault_at 6 13)
unfolding fault row
fault_3 = refl

fault_4 : fault (codes "cron(0 9 ? * FRI-MON *)") ≡ Some (fault_at 3 13)
unfolding fault row
fault_4 = refl

fault_5 : fault (codes "rate(0 x)") ≡ Some (fault_at 3 5)
unfolding fault row
fault_5 = refl

fault_6 : fault (codes "rate(00 minutes)") ≡ Some (fault_at 2 5)
unfolding fault row
fault_6 = refl

fault_7 : fault (codes "rate(1 fortnight)") ≡ Some (fault_at 2 7)
unfolding fault row
fault_7 = refl

fault_8 : fault (codes "rate( 1 day)") ≡ Some (fault_at 1 0)
unfolding fault row
fault_8 = refl

fault_9 : fault (codes "rate(1 day )") ≡ Some (fault_at 1 0)
unfolding fault row
fault_9 = refl

fault_10 : fault (codes "rate(1" ++ 9 ∷ [] ++ codes "day)") ≡ Some (fault_at 1 0)
unfolding fault row
fault_10 = refl

fault_11 : fault (codes "cron(0 9 ? * 3#6 *)") ≡ Some (fault_at 3 13)
unfolding fault row
fault_11 = refl

fault_12 : fault (codes "cron(0 9 ? * 3#0 *)") ≡ Some (fault_at 3 13)
unfolding fault row
fault_12 = refl

fault_13 : fault (codes "cron(0 9 ? * 3#12 *)") ≡ Some (fault_at 2 13)
unfolding fault row
fault_13 = refl

fault_14 : fault (codes "cron(*/0 9 ? * 2 *)") ≡ Some (fault_at 3 5)
unfolding fault row
fault_14 = refl

fault_15 : fault (codes "cron(*/1000 9 ? * 2 *)") ≡ Some (fault_at 2 5)
unfolding fault row
fault_15 = refl

fault_16 : fault (codes "cron(99-x 9 ? * 2 *)") ≡ Some (fault_at 2 5)
unfolding fault row
fault_16 = refl

fault_17 : fault (codes "cron(1, 9 ? * 2 *)") ≡ Some (fault_at 2 7)
unfolding fault row
fault_17 = refl

fault_18 : fault (codes "cron(0 9 L,5 13 ? *)") ≡ Some (fault_at 4 9)
unfolding fault row
fault_18 = refl

fault_19 : fault (codes "cron(0 9 ? * 2,L *)") ≡ Some (fault_at 4 13)
unfolding fault row
fault_19 = refl

fault_20 : fault (codes "at(1900-02-29T00:00:00)") ≡ Some (fault_at 3 3)
unfolding fault row
fault_20 = refl

fault_21 : fault (codes "at(2100-02-29T00:00:00)") ≡ Some (fault_at 3 11)
unfolding fault row
fault_21 = refl

fault_22 : fault (codes "at(2026-13-01T00:00:00)") ≡ Some (fault_at 3 8)
unfolding fault row
fault_22 = refl

fault_23 : fault (codes "at(2026-01-01T00:00:60)") ≡ Some (fault_at 3 20)
unfolding fault row
fault_23 = refl

fault_24 : fault (codes "at(2026-1-01T00:00:00)") ≡ Some (fault_at 1 0)
unfolding fault row
fault_24 = refl

fault_25 : fault (codes "") ≡ Some (fault_at 1 0)
unfolding fault row
fault_25 = refl

-- texts without a fault
no_fault_1 : fault (codes "at(2096-02-29T23:59:59)") ≡ None
unfolding fault row
no_fault_1 = refl

no_fault_2 : fault (codes "rate(999999 minutes)") ≡ None
unfolding fault row
no_fault_2 = refl

no_fault_3 : fault (codes "cron(30 2 * * ? *)") ≡ None
unfolding fault row
no_fault_3 = refl

no_fault_4 : fault (codes "cron(59/999 */23 1-31/31 jan-DEC,5 ? 2097-2098)") ≡ None
unfolding fault row
no_fault_4 = refl

no_fault_5 : fault (codes "cron(0/5 9 ? * L *)") ≡ None
unfolding fault row
no_fault_5 = refl

pub texts_spell : TextsSpell
texts_spell = record {
  half_past_two = half_past_two-spelled;
  first_weekday = first_weekday-spelled;
  second_tuesday = second_tuesday-spelled;
  last_friday = last_friday-spelled;
  day = day-spelled;
  hours = hours-spelled;
}

pub canonical_texts : CanonicalTexts
canonical_texts = record {
  half_past_two = half_past_two-canonical;
  first_weekday = first_weekday-canonical;
  second_tuesday = second_tuesday-canonical;
  last_friday = last_friday-canonical;
  day = day-canonical;
  hours = hours-canonical;
  at_runs = at_runs-canonical;
}

pub first_faults : FirstFaults
first_faults = record {
  two_days_of_week = fault_1;
  both_days_given = fault_2;
  no_day_given = fault_3;
  week_runs_back = fault_4;
  zero_before_the_unit = fault_5;
  digits_of_zero = fault_6;
  no_such_unit = fault_7;
  space_first = fault_8;
  space_last = fault_9;
  tab_between = fault_10;
  sixth_of_a_month = fault_11;
  zeroth_of_a_month = fault_12;
  twelfth_of_a_month = fault_13;
  step_of_0 = fault_14;
  step_of_four_digits = fault_15;
  run_to_no_number = fault_16;
  nothing_behind_a_comma = fault_17;
  last_day_among_days = fault_18;
  saturday_among_days = fault_19;
  year_too_early = fault_20;
  no_leap_day_in_2100 = fault_21;
  month_13 = fault_22;
  second_60 = fault_23;
  month_of_one_digit = fault_24;
  empty = fault_25;
}

pub no_faults : NoFaults
no_faults = record {
  leap_day = no_fault_1;
  most_of_a_rate = no_fault_2;
  half_past_two = no_fault_3;
  every_form = no_fault_4;
  saturday_alone = no_fault_5;
}
