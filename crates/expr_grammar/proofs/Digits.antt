-- Lemmas on decimal digits.
use Rattle.std.proofs.Common.{◌≡◌, ℕ, ◌+◌, ◌*◌, ◌^◌, ◌≤◌, true, List, length, add-one}
use Rattle.std.proofs.Math.Nat.{pow-suc}
use Rattle.std.specs.List.{list_all}
use Rattle.std.specs.Prelude.{nat_le, ◌&&◌}
use Rattle.std.proofs.lemmas.Bool.{leb-true, and_parts}
use Rattle.expressions.specs.Pieces.{is_number, is_digit}

pub pow_more : (i : ℕ) → 10 ^ (i + 1) ≡ 10 ^ i * 10
pow_more i = rw add-one (pow-suc 10 i)

-- what a number of so many digits says
pub number_parts : (least most : ℕ) (text : List ℕ) → is_number least most text ≡ true →
    (list_all is_digit text ≡ true) × (least ≤ length text) × (length text ≤ most)
number_parts least most text is =
    let outer = and_parts (list_all is_digit text && nat_le least (length text)) (nat_le (length text) most) is in
    let inner = and_parts (list_all is_digit text) (nat_le least (length text)) outer.0 in
    (inner.0, leb-true _ _ inner.1, leb-true _ _ outer.1)

pub number_digits : (least most : ℕ) (text : List ℕ) → is_number least most text ≡ true → list_all is_digit text ≡ true
number_digits least most text is = (number_parts least most text is).0

pub number_long : (least most : ℕ) (text : List ℕ) → is_number least most text ≡ true → least ≤ length text
number_long least most text is = (number_parts least most text is).1

pub number_short : (least most : ℕ) (text : List ℕ) → is_number least most text ≡ true → length text ≤ most
number_short least most text is = (number_parts least most text is).2
