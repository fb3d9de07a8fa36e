use Rattle.std.proofs.Common.{◌≡◌, ◌/◌, w16, to_z, of_z, unsigned_abs, ap, ◌∙◌, arith}
use Rattle.std.proofs.lemmas.Int.{ints}
use Rattle.cron_search.specs.CivilTime.{day_number}
use Rattle.civil_time.proofs.CivilSeconds.{IsNumbered, numbered}
use Rattle.civil_time.proofs.civil_seconds.civil_at.Goals as goal

-- the date has the number of the days that passed
by_number : (c : goal.After-struct_told-1) → IsNumbered c.in-Ok.date (c.args.second / 86_400) (unsigned_abs c.in-Ok.date.year)
by_number c =
    let high = c.requires in
    numbered c.in-Ok.date (c.args.second / 86_400) (omega (arith, ints, c.in-Ok.ensures.value)) (omega arith)

-- the year comes through the cast
kept : (c : goal.After-struct_told-1) → unsigned_abs (to_z w16 (of_z w16 c.in-Ok.date.year)) ≡ unsigned_abs c.in-Ok.date.year
kept c =
    let date = by_number c in
    let same = date.same in
    let high = date.real.to_2199 in
    omega (arith, ints)

pub overflow_cast-result : goal.overflow_cast-result
overflow_cast-result c =
    let date = by_number c in
    let same = date.same in
    let high = date.real.to_2199 in
    (omega (arith, ints), omega (arith, ints))

pub returns-clause-real : goal.returns-clause-real
returns-clause-real c = record {
  date = rw (kept c) (by_number c).real;
  hour = omega arith;
  minute = omega arith;
  second = omega arith;
}

pub returns-clause-value : goal.returns-clause-value
returns-clause-value c =
    let date = c.in-Ok.date in
    let day : day_number (unsigned_abs (to_z w16 (of_z w16 date.year))) date.month date.day ≡ c.args.second / 86_400 =
    ap (λ y. day_number y date.month date.day) (kept c) ∙ (by_number c).value in
    let time = c.from_second-time.ensures.seconds in
    omega arith
