-- The text that is printed of a rate is read back as the rate.
use Rattle.std.proofs.Common.{◌≡◌, ℕ, suc, ◌+◌, ◌*◌, ◌-◌, ◌^◌, ◌<◌, ◌≤◌, Bool, true, false, cond, List, [], ◌∷◌, ◌++◌, length, refl, ap, arith, ne_eqb, lit<, Some, None}
use Rattle.std.specs.Prelude.{codes, decimal, nat_le, not, slice_index, ◌==◌, ◌&&◌, ◌||◌}
use Rattle.std.specs.List.{join_with_byte, list_all}
use Rattle.std.proofs.lemmas.Bool.{leb-true, or_right, and_parts}
use Rattle.std.proofs.Math.Nat.{pow-le-pow_right}
use Rattle.std.proofs.lemmas.Fmt.{first_decimal, length-decimal-le}
use Rattle.expressions.specs.declared.expression.Unit.{Unit as RateUnit}
use Rattle.expressions.specs.declared.expression.Unit.TheVariants as units
use Rattle.expressions.specs.Canonical.{rate_text, unit_text}
use Rattle.expressions.specs.Pieces.{is_digit, is_number, number_from, number_of, words}
use Rattle.expressions.specs.Spelling.{AreRateWords, SpellsRate, count_of, unit_of}
use Rattle.expr_grammar.proofs.DecimalLaws.{is_number_by, written}
use Rattle.expr_grammar.proofs.Digits.{pow_more, number_digits, number_short}
use Rattle.expr_grammar.proofs.LackLaws.{AllFilled, AllLack, Lacks, digits_lack, joined_bare, words_joined}

digit_high : (b : ℕ) → is_digit b ≡ true → b ≤ 57
digit_high b is = leb-true _ _ (and_parts (nat_le 48 b) (nat_le b 57) is).1

-- a number with more digits behind it
number_lt : (i n : ℕ) (text : List ℕ) → n < 10 ^ i → list_all is_digit text ≡ true → number_from n text < 10 ^ (i + length text)
number_lt i n [] small digits = let same : i + 0 ≡ i = omega arith in rw same small
number_lt i n (b ∷ bs) small digits =
    let parts = and_parts (is_digit b) (list_all is_digit bs) digits in
    let high : b ≤ 57 = digit_high b parts.0 in
    let more : 10 ^ (i + 1) ≡ 10 ^ i * 10 = pow_more i in
    let same : i + suc (length bs) ≡ i + 1 + length bs = omega arith in
    rw same (number_lt (i + 1) (n * 10 + (b - 48)) bs (omega arith) parts.1)

-- at most six digits stand for less than a million
small_number : (text : List ℕ) → list_all is_digit text ≡ true → length text ≤ 6 → number_of text < 1000000
small_number text digits short =
    let less = number_lt 0 0 text (lit< tt) digits in
    let most : 10 ^ (0 + length text) ≤ 1000000 = pow-le-pow_right {n = 10} (lit< tt) {i = 0 + length text} {j = 6} (omega arith) in
    omega (arith, less, most)

chosen : {A : Type 0} (test : Bool) (x y : A) → cond test (Some x) None ≡ Some y → (test ≡ true) × (x ≡ y)
chosen true x y is = (refl, cc)
chosen false x y is = cc

-- the count of a rate
count_small : (word : List ℕ) (count : ℕ) → count_of word ≡ Some count → count < 1000000
count_small word count is =
    let found = chosen (is_number 1 6 word && ((length word == 1) || not (slice_index word 0 == 48))) (number_of word) count is in
    let number = (and_parts (is_number 1 6 word) ((length word == 1) || not (slice_index word 0 == 48)) found.0).0 in
    let small = small_number word (number_digits 1 6 word number) (number_short 1 6 word number) in
    let same : number_of word ≡ count = found.1 in
    omega (arith, small, same)

rate_bounds : (words : List (List ℕ)) (count : ℕ) (unit : RateUnit) → AreRateWords words count unit → (1 ≤ count) × (count < 1000000)
rate_bounds [] count unit are = absurd are
rate_bounds (value ∷ []) count unit are = absurd are
rate_bounds (value ∷ name ∷ []) count unit are = (are.1, count_small value count are.0)
rate_bounds (value ∷ name ∷ third ∷ more) count unit are = absurd are

-- the decimal of a count spells it
count_back : (count : ℕ) → 1 ≤ count → count < 1000000 → count_of (decimal count) ≡ Some count
count_back count some small =
    let w = written count (omega arith) in
    let number : is_number 1 6 (decimal count) ≡ true =
    is_number_by 1 6 (decimal count) w.digits (omega (arith, w.some)) (length-decimal-le 6 count (lit< tt) (omega arith) (omega arith)) in
    let high : 48 < slice_index (decimal count) 0 = first_decimal count (omega arith) (omega arith) in
    let other : (slice_index (decimal count) 0 == 48) ≡ false = ne_eqb _ _ (λ e. omega (arith, high, e)) in
    let bare : ((length (decimal count) == 1) || not (slice_index (decimal count) 0 == 48)) ≡ true =
    or_right (length (decimal count) == 1) (not (slice_index (decimal count) 0 == 48)) (ap not other) in
    rw (number, bare) (ap Some w.value)

-- the name of a unit spells it, and is a word
record NameBack (unit : RateUnit) (name : List ℕ) : Type 0 where
  is : unit_of name ≡ Some unit
  lacks : list_all (λ b. not (b == 32)) name ≡ true
  filled : 0 < length name

name_back : (count : ℕ) (unit : RateUnit) → NameBack unit (unit_text count unit)
name_back count units.Minute = by_one (count == 1) where
  by_one : (one : Bool) → NameBack units.Minute (cond one (codes "minute") (codes "minutes"))
  by_one true = record { is = refl; lacks = refl; filled = lit< tt }
  by_one false = record { is = refl; lacks = refl; filled = lit< tt }
name_back count units.Hour = by_one (count == 1) where
  by_one : (one : Bool) → NameBack units.Hour (cond one (codes "hour") (codes "hours"))
  by_one true = record { is = refl; lacks = refl; filled = lit< tt }
  by_one false = record { is = refl; lacks = refl; filled = lit< tt }
name_back count units.Day = by_one (count == 1) where
  by_one : (one : Bool) → NameBack units.Day (cond one (codes "day") (codes "days"))
  by_one true = record { is = refl; lacks = refl; filled = lit< tt }
  by_one false = record { is = refl; lacks = refl; filled = lit< tt }

lacks_by : (text : List ℕ) → list_all (λ b. not (b == 32)) text ≡ true → Lacks 32 text
lacks_by [] is = tt
lacks_by (b ∷ bs) is =
    let parts = and_parts (not (b == 32)) (list_all (λ x. not (x == 32)) bs) is in (unless (b == 32) parts.0, lacks_by bs parts.1) where
      unless : (t : Bool) → not t ≡ true → t ≡ false
      unless true e = cc
      unless false e = refl

rate_whole : (value name : List ℕ) →
    codes "rate(" ++ value ++ codes " " ++ name ++ codes ")" ≡ codes "rate(" ++ join_with_byte 32 (value ∷ name ∷ []) ++ codes ")"
rate_whole value name = ap (λ t. codes "rate(" ++ t ++ codes ")") (spaced value name) where
  spaced : (a b : List ℕ) → a ++ codes " " ++ b ≡ a ++ 32 ∷ b
  spaced [] b = refl
  spaced (x ∷ a) b = ap (λ t. x ∷ t) (spaced a b)

-- a rate that some text spells is spelled by what is printed of it
pub rate_back : (text : List ℕ) (count : ℕ) (unit : RateUnit) → SpellsRate text count unit → SpellsRate (rate_text count unit) count unit
rate_back text count unit s =
    let bounds = rate_bounds (words s.inner) count unit s.spelled in
    let few : count < 1000000 = bounds.1 in
    let w = written count (omega arith) in
    let name = name_back count unit in
    let lack : AllLack 32 (decimal count ∷ unit_text count unit ∷ []) = (digits_lack 32 (decimal count) refl w.digits, (lacks_by (unit_text count unit) name.lacks, tt)) in
    let filled : AllFilled (decimal count ∷ unit_text count unit ∷ []) = (w.some, (name.filled, tt)) in
    record {
      inner = join_with_byte 32 (decimal count ∷ unit_text count unit ∷ []);
      encloses = record {
        whole = rate_whole (decimal count) (unit_text count unit);
        bare = joined_bare (decimal count) (unit_text count unit) [] lack filled;
      };
      spelled = rw (words_joined (decimal count) (unit_text count unit ∷ []) lack filled) (count_back count bounds.0 few, bounds.0, name.is);
    }
