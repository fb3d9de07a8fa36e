-- The test and the record of a real civil second say the same.
use Rattle.std.proofs.Common.{◌≡◌, true, arith}
use Rattle.std.proofs.lemmas.Bool.Decides.{nat_tests}
use Rattle.expressions.specs.declared.expression.Civil.{Civil}
use Rattle.expressions.specs.CivilSeconds.{is_civil, IsCivilSecond}

-- what passes the test is a second that the calendar and the clock have
pub is_civil-true : (d : Civil) → is_civil d ≡ true → IsCivilSecond d
is_civil-true d test = record {
  date = record {
    from_1970 = grind (arith, nat_tests);
    to_2199 = grind (arith, nat_tests);
    month_low = grind (arith, nat_tests);
    month_high = grind (arith, nat_tests);
    day_low = grind (arith, nat_tests);
    day_high = grind (arith, nat_tests);
  };
  hour = grind (arith, nat_tests);
  minute = grind (arith, nat_tests);
  second = grind (arith, nat_tests);
}

-- and each such second passes it
pub IsCivilSecond-is_civil : (d : Civil) → IsCivilSecond d → is_civil d ≡ true
IsCivilSecond-is_civil d real =
    let date = real.date in grind (arith, nat_tests)
