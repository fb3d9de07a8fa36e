use Rattle.std.proofs.Common.{arith, ◌≡◌, ℕ, ◌+◌, ◌*◌, ◌^◌, ◌<◌, ◌≤◌, get_or, true, sym, ◌∙◌, refl}
use Rattle.std.specs.Char.{is_ascii_digit, digit_value, IsAsciiDigit}
use Rattle.std.proofs.lemmas.Grind.{pow_more}
use Rattle.std.proofs.lemmas.Int.Digits.{digits_value_more}
use Rattle.std.proofs.lemmas.List.Folds.{list_all_more}
use Rattle.std.proofs.lemmas.Str.{digit_value_digit}
use Rattle.std.proofs.Math.Nat.{pow-le-pow_right}
use Rattle.http_wire.proofs.digits.number_from.Goals as goal

-- a number of fewer than 19 digits has room for one more
room : (k n : ℕ) → k < 19 → n < 10 ^ k → n * 10 + 9 < 2 ^ 64
room k n few below =
    let some : 0 < 10 = omega arith in
    let within : k ≤ 18 = omega (arith, few) in
    let most : 10 ^ k ≤ 10 ^ 18 = pow-le-pow_right some within in
    omega (arith, below, most)

pub overflow_mul-number : goal.overflow_mul-number
overflow_mul-number c =
    let fits : c.loop-byte.number * 10 + 9 < 2 ^ 64 = room c.loop-byte.byte-index c.loop-byte.number (omega arith) c.loop-byte.invariant.small in
    omega (arith, fits)

pub overflow_add-number : goal.overflow_add-number
overflow_add-number c =
    let fits : c.loop-byte.number * 10 + 9 < 2 ^ 64 = room c.loop-byte.byte-index c.loop-byte.number (omega arith) c.loop-byte.invariant.small in
    let range : IsAsciiDigit (get_or c.args.digits.now c.loop-byte.byte-index 0) =
    rw c.if-not-is_ascii_digit.false at c.is_ascii_digit.ensures.cases in
    omega (arith, fits, range)

pub loop-byte-preserved : goal.loop-byte-preserved
loop-byte-preserved c =
    let more = digits_value_more 10 c.args.digits.now c.loop-byte.byte-index c.loop-byte-test.true in
    let all = list_all_more is_ascii_digit c.args.digits.now c.loop-byte.byte-index 0 c.loop-byte-test.true in
    let power = pow_more 10 c.loop-byte.byte-index in
    let passes : is_ascii_digit (get_or c.args.digits.now c.loop-byte.byte-index 0) ≡ true =
    sym c.is_ascii_digit.ensures.value ∙ c.if-not-is_ascii_digit.false in
    let range : IsAsciiDigit (get_or c.args.digits.now c.loop-byte.byte-index 0) =
    rw c.if-not-is_ascii_digit.false at c.is_ascii_digit.ensures.cases in
    let bound : digit_value (get_or c.args.digits.now c.loop-byte.byte-index 0) < 10 =
    rw c.if-not-is_ascii_digit.false at c.is_ascii_digit.ensures.bound in
    let digit = digit_value_digit (get_or c.args.digits.now c.loop-byte.byte-index 0) range in
    record {
      number = omega (arith, more, digit, c.loop-byte.invariant.number);
      digits = rw (all, c.loop-byte.invariant.digits, passes) refl;
      small = omega (arith, power, digit, bound, c.loop-byte.invariant.small);
    }
