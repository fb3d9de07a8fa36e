-- Decimals are read back.
use Rattle.std.proofs.Common.{◌≡◌, ℕ, ◌+◌, ◌*◌, ◌-◌, ◌/◌, ◌%◌, ◌^◌, ◌<◌, ◌≤◌, true, List, [], ◌∷◌, ◌++◌, length, refl, ap, ◌∙◌, arith, le-leb, lit<, length-append, Some}
use Rattle.std.proofs.lemmas.Bool.{and_parts}
use Rattle.std.specs.Prelude.{nat_le, decimal}
use Rattle.std.specs.List.{list_all}
use Rattle.std.proofs.lemmas.Fmt.{decimal_by_steps, decimal_step, decimal_digit, length-decimal-le}
use Rattle.expressions.specs.Pieces.{is_digit, is_number, number_from, number_of}
use Rattle.expressions.specs.CronItems as cron
use Rattle.expressions.specs.CronItems.{is_value_number, value}

-- a text of digits that stands for the number
pub record IsWritten (n : ℕ) (text : List ℕ) : Type 0 where
  pub digits : list_all is_digit text ≡ true
  pub value : number_of text ≡ n
  pub some : 0 < length text

number_behind : (n : ℕ) (ds : List ℕ) (d : ℕ) → number_from n (ds ++ d ∷ []) ≡ number_from n ds * 10 + (d - 48)
number_behind n [] d = refl
number_behind n (b ∷ bs) d = number_behind (n * 10 + (b - 48)) bs d

digits_behind : (ds : List ℕ) (d : ℕ) → list_all is_digit ds ≡ true → is_digit d ≡ true → list_all is_digit (ds ++ d ∷ []) ≡ true
digits_behind [] d all one = rw one refl
digits_behind (b ∷ bs) d all one =
    let parts = and_parts (is_digit b) (list_all is_digit bs) all in rw parts.0 (digits_behind bs d parts.1 one)

digit_is : (d : ℕ) → d < 10 → is_digit (48 + d) ≡ true
digit_is d small =
    let low : nat_le 48 (48 + d) ≡ true = le-leb _ _ (omega arith) in
    let high : nat_le (48 + d) 57 ≡ true = le-leb _ _ (omega arith) in
    rw (low, high) refl

written_one : (n : ℕ) → n < 10 → IsWritten n ((48 + n) ∷ [])
written_one n small = record { digits = rw (digit_is n small) refl; value = omega arith; some = lit< tt }

written_more : (n : ℕ) (ds : List ℕ) → 10 ≤ n → IsWritten (n / 10) ds → IsWritten n (ds ++ (48 + n % 10) ∷ [])
written_more n ds large front = record {
  digits = digits_behind ds (48 + n % 10) front.digits (digit_is (n % 10) (omega arith));
  value = number_behind 0 ds (48 + n % 10) ∙ (let tens : number_of ds ≡ n / 10 = front.value in omega (arith, tens));
  some = omega (arith, length-append ds ((48 + n % 10) ∷ []));
}

-- a decimal is digits that stand for its number
pub written : (n : ℕ) → n < 2 ^ 64 → IsWritten n (decimal n)
written = decimal_by_steps IsWritten written_one written_more

-- so many digits
pub is_number_by : (least most : ℕ) (text : List ℕ) → list_all is_digit text ≡ true → least ≤ length text → length text ≤ most → is_number least most text ≡ true
is_number_by least most text digits long short = rw (digits, le-leb _ _ long, le-leb _ _ short) refl

one_longer : (n : ℕ) → 10 ≤ n → n < 2 ^ 64 → length (decimal n) ≡ length (decimal (n / 10)) + 1
one_longer n large small = ap length (decimal_step n large small) ∙ length-append (decimal (n / 10)) ((48 + n % 10) ∷ [])

four_long : (n : ℕ) → 1000 ≤ n → n < 10000 → length (decimal n) ≡ 4
four_long n low high =
    let last : length (decimal (n / 10 / 10 / 10)) ≡ 1 = ap length (decimal_digit (n / 10 / 10 / 10) (omega arith)) in
    let a = one_longer n (omega arith) (omega arith) in
    let b = one_longer (n / 10) (omega arith) (omega arith) in
    let c = one_longer (n / 10 / 10) (omega arith) (omega arith) in
    omega (arith, last, a, b, c)

two_number : (n : ℕ) → n < 100 → is_number 1 2 (decimal n) ≡ true
two_number n small =
    let w = written n (omega arith) in
    is_number_by 1 2 (decimal n) w.digits (omega (arith, w.some)) (length-decimal-le 2 n (lit< tt) (omega arith) (omega arith))

four_number : (n : ℕ) → 1000 ≤ n → n < 10000 → is_number 4 4 (decimal n) ≡ true
four_number n low high =
    let long = four_long n low high in
    is_number_by 4 4 (decimal n) (written n (omega arith)).digits (omega (arith, long)) (omega (arith, long))

value_number : (field : cron.Field) (n : ℕ) → cron.least field ≤ n → n ≤ cron.greatest field → is_value_number field (decimal n) ≡ true
value_number cron.minutes n low high = two_number n (omega arith)
value_number cron.hours n low high = two_number n (omega arith)
value_number cron.day_of_month n low high = two_number n (omega arith)
value_number cron.month n low high = two_number n (omega arith)
value_number cron.day_of_week n low high = two_number n (omega arith)
value_number cron.year n low high = four_number n (omega arith) (omega arith)

pub greatest_small : (field : cron.Field) → cron.greatest field < 10000
greatest_small cron.minutes = lit< tt
greatest_small cron.hours = lit< tt
greatest_small cron.day_of_month = lit< tt
greatest_small cron.month = lit< tt
greatest_small cron.day_of_week = lit< tt
greatest_small cron.year = lit< tt

-- the decimal of a value of a field spells it
pub value_back : (field : cron.Field) (n : ℕ) → cron.least field ≤ n → n ≤ cron.greatest field → value field (decimal n) ≡ Some n
value_back field n low high =
    let small = greatest_small field in
    let w = written n (omega arith) in
    rw (value_number field n low high) (ap Some w.value)
