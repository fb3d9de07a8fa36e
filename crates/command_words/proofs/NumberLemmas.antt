-- A word of digits that no number of 64 bits is stands for a number above each limit.
use Rattle.std.proofs.Common.{◌≡◌, ℕ, ◌^◌, ◌<◌, ◌≤◌, List, [], ◌∷◌, length, drop, cond, None, Option, Bool, true, false, ◌&&◌, refl, arith, sym, subst, ap, nat_le}
use Rattle.std.proofs.lemmas.Bool.{lt-leb}
use Rattle.std.proofs.lemmas.Str.{digit_value_digit}
use borrow.Author.Tests.{ne_eqb, leb-true}
use Rattle.clap.proofs.WalkLemmas.{both}
use lib.Dec.{leb}
use Rattle.std.specs.List.{list_all}
use Rattle.std.specs.Char.{is_ascii_digit}
use Rattle.std.specs.Str.Parse.{AllDigits, IsNumeral, digits_value, without_leading_plus}
use Rattle.command_words.specs.Numbers.{begins_well, is_number, number_between}

is_digit : (c : ℕ) → is_ascii_digit c ≡ true → (48 ≤ c) × (c ≤ 57)
is_digit c e = let k = both (leb 48 c) (leb c 57) e in (leb-true 48 c k.0, leb-true c 57 k.1)

all_digits : (ds : List ℕ) → list_all is_ascii_digit ds ≡ true → AllDigits 10 ds
all_digits [] e = tt
all_digits (c ∷ cs) e =
    let k = both (is_ascii_digit c) (list_all is_ascii_digit cs) e in
    let d = is_digit c k.0 in
    let value = digit_value_digit c d in
    (omega arith, all_digits cs k.1)

no_plus : (ds : List ℕ) → list_all is_ascii_digit ds ≡ true → without_leading_plus ds ≡ ds
no_plus [] e = refl
no_plus (c ∷ cs) e =
    let k = both (is_ascii_digit c) (list_all is_ascii_digit cs) e in
    let d = is_digit c k.0 in
    ap (λ (b : Bool). drop (cond b 1 0) (c ∷ cs)) (ne_eqb c 43 (λ same. omega arith))

nonempty : (ds : List ℕ) → begins_well ds ≡ true → 0 < length ds
nonempty [] e = absurd (cc)
nonempty (c ∷ cs) e = omega arith

numeral : (ds : List ℕ) → is_number ds ≡ true → IsNumeral 10 ds
numeral ds e = let k = both (begins_well ds) (list_all is_ascii_digit ds) e in (nonempty ds k.0, all_digits ds k.1)

pub plain_numeral : (ds : List ℕ) → is_number ds ≡ true → without_leading_plus ds ≡ ds
plain_numeral ds e = no_plus ds (both (begins_well ds) (list_all is_ascii_digit ds) e).1

above : (v limit : ℕ) → limit < 2 ^ 64 → (v < 2 ^ 64 → ⊥) → nat_le v limit ≡ false
above v limit fits large = lt-leb v limit (omega (arith, large))

and_no : (b : Bool) → (b && false) ≡ false
and_no true = refl
and_no false = refl

pub too_large : (least greatest : ℕ) (ds : List ℕ) → greatest < 2 ^ 64 → is_number ds ≡ true
    → (IsNumeral 10 (without_leading_plus ds) × (digits_value 10 (without_leading_plus ds) < 2 ^ 64) → ⊥)
    → ◌≡◌ {A = Option ℕ} None (number_between least greatest ds)
too_large least greatest ds fits e unread =
    let plain = plain_numeral ds e in
    let large : digits_value 10 ds < 2 ^ 64 → ⊥ = λ small. unread (subst (λ (l : List ℕ). IsNumeral 10 l × (digits_value 10 l < 2 ^ 64)) (sym plain) (numeral ds e, small)) in
    let over = above (digits_value 10 ds) greatest fits large in
    rw (e, over, and_no) refl
