-- How many bytes words and texts have.
use Rattle.std.proofs.Common.{◌≡◌, ℕ, ◌+◌, ◌*◌, ◌/◌, ◌<◌, ◌≤◌, ◌==◌, Bool, true, false, not, cond, nat_le, nat_lt, ◌&&◌, List, [], ◌∷◌, ◌++◌, length, Option, Some, None, option_map, refl, sym, ap, subst, ◌∙◌, arith, inl, inr, length-append}
use Rattle.std.specs.List.{filter}
use Rattle.std.specs.Char.{len_utf8}
use Rattle.std.specs.Str.{is_utf8}
use Rattle.std.proofs.lemmas.Bool.{cases_lt, lt-ltb, le-ltb, lt-leb, ltb-false}
use Rattle.std.proofs.lemmas.Bool.Decides.{nat_tests}
use Rattle.std.proofs.lemmas.List.Elements.{filter-append}
use Rattle.std.proofs.lemmas.Str.{IsUtf8-from_is_utf8, length-encode}
use lib.Utf8.{encode, encodes, next}
use Rattle.plain_words.specs.declared.word.NameFault.TheVariants.{Empty, Long as LongWord, BadByte}
use Rattle.plain_words.specs.Words.{word_fault}
use Rattle.plain_words.proofs.Booleans.{and_false}
use Rattle.sched_plain.specs.Validity.{character_count}

starts : (b : ℕ) (more : List ℕ) → not (nat_le 128 b && nat_lt b 192) ≡ true → 1 ≤ character_count (b ∷ more)
starts b more e = rw e (omega arith)

low_starts : (b : ℕ) → b < 128 → not (nat_le 128 b && nat_lt b 192) ≡ true
low_starts b lt = rw (lt-leb 128 b lt) refl

high_starts : (b : ℕ) → 192 ≤ b → not (nat_le 128 b && nat_lt b 192) ≡ true
high_starts b le = rw (le-ltb b 192 le, and_false (nat_le 128 b)) refl

at_most_four : (c : ℕ) → len_utf8 c ≤ 4
at_most_four c = grind (arith, nat_tests)

-- a character has a byte that begins it
counts : (c : ℕ) → 1 ≤ character_count (encode c)
unfolding encode
counts c = elim (cases_lt c 128) [
  | inl lt ↦ rw (lt-ltb c 128 lt) (starts c [] (low_starts c lt))
  | inr le ↦ rw (le-ltb c 128 le) (elim (cases_lt c 2048) [
    | inl lt ↦ rw (lt-ltb c 2048 lt) (starts (192 + c / 64) (next c ∷ []) (high_starts (192 + c / 64) (omega arith)))
    | inr more ↦ rw (le-ltb c 2048 more) (elim (cases_lt c 65536) [
      | inl lt ↦ rw (lt-ltb c 65536 lt) (starts (224 + c / 4096) (next (c / 64) ∷ next c ∷ []) (high_starts (224 + c / 4096) (omega arith)))
      | inr most ↦ rw (le-ltb c 65536 most) (starts (240 + c / 262144) (next (c / 4096) ∷ next (c / 64) ∷ next c ∷ []) (high_starts (240 + c / 262144) (omega arith)))
    ])
  ])
]

count-append : (xs ys : List ℕ) → character_count (xs ++ ys) ≡ character_count xs + character_count ys
count-append xs ys =
    let both : filter (λ b. not (nat_le 128 b && nat_lt b 192)) (xs ++ ys) ≡ filter (λ b. not (nat_le 128 b && nat_lt b 192)) xs ++ filter (λ b. not (nat_le 128 b && nat_lt b 192)) ys = filter-append (λ b. not (nat_le 128 b && nat_lt b 192)) xs ys in
    ap length both ∙ length-append (filter (λ b. not (nat_le 128 b && nat_lt b 192)) xs) (filter (λ b. not (nat_le 128 b && nat_lt b 192)) ys)

all_bounded : (cs : List ℕ) → length (encodes cs) ≤ 4 * character_count (encodes cs)
all_bounded [] = omega arith
all_bounded (c ∷ cs) =
    let one : length (encode c) ≤ 4 = subst (λ (n : ℕ). n ≤ 4) (sym (length-encode c)) (at_most_four c) in
    omega (arith, counts c, all_bounded cs, count-append (encode c) (encodes cs), length-append (encode c) (encodes cs))

-- a text has at most four bytes a character
pub utf8_length : (text : List ℕ) → is_utf8 text ≡ true → length text ≤ 4 * character_count text
utf8_length text is =
    let spelled = IsUtf8-from_is_utf8 text is in
    subst (λ (t : List ℕ). length t ≤ 4 * character_count t) spelled.1.1 (all_bounded spelled.0)

tests : {A : Type 0} (empty long : Bool) (x y : A) (bad : Option A) → cond empty (Some x) (cond long (Some y) bad) ≡ None → (empty ≡ false) × (long ≡ false)
tests true long x y bad e = absurd cc
tests false true x y bad e = absurd cc
tests false false x y bad e = (refl, refl)

-- a word without a fault is no longer than it may be
pub word_short : (most : ℕ) (bad : Option ℕ) (bytes : List ℕ) → word_fault most bad bytes ≡ None → length bytes ≤ most
word_short most bad bytes e =
    ltb-false most (length bytes) (tests (length bytes == 0) (nat_lt most (length bytes)) Empty (LongWord (length bytes)) (option_map (λ at. BadByte at) bad) e).1

not_zero : (bytes : List ℕ) → (length bytes == 0) ≡ false → 1 ≤ length bytes
not_zero [] e = absurd cc
not_zero (b ∷ more) e = omega arith

-- and has a byte
pub word_filled : (most : ℕ) (bad : Option ℕ) (bytes : List ℕ) → word_fault most bad bytes ≡ None → 1 ≤ length bytes
word_filled most bad bytes e =
    not_zero bytes (tests (length bytes == 0) (nat_lt most (length bytes)) Empty (LongWord (length bytes)) (option_map (λ at. BadByte at) bad) e).0
