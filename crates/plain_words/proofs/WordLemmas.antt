-- A word without fault is ASCII; the search for the first number that passes a test.
use Rattle.std.proofs.Common.{◌≡◌, ℕ, zero, suc, ◌<◌, ◌≤◌, ◌==◌, nat_lt, Bool, true, false, not, ◌&&◌, ◌||◌, cond, Option, Some, None, List, length, position, get_or, lit<, refl, sym, ◌∙◌, arith, inl, inr}
use Rattle.std.specs.List.{prefix_len, position_or_len}
use Rattle.std.specs.Option.{option_map, option_or}
use Rattle.std.specs.Prelude.{Result, Ok, Err, IfOk}
use Rattle.std.specs.Str.{IsAscii}
use Rattle.std.proofs.lemmas.Bool.{cases_lt}
use Rattle.std.proofs.lemmas.List.{get_or_past}
use Rattle.std.proofs.lemmas.List.Sums.{prefix_len_passes}
use Rattle.plain_words.specs.declared.word.NameFault.{NameFault}
use Rattle.plain_words.specs.declared.word.NameFault.TheVariants.{BadByte}
use Rattle.plain_words.proofs.Booleans.{not_not, not_there}
use Rattle.plain_words.specs.Words.{word_fault, name_fault, token_fault, zone_name_fault, is_name_byte, is_token_byte, is_zone_byte, is_bad_zone_place, is_loose_place, first_below}

-- a choice of faults that found none
no_fault : (a b : Bool) (f g : NameFault) (bad : Option ℕ)
    → cond a (Some f) (cond b (Some g) (option_map (λ at. BadByte at) bad)) ≡ None → bad ≡ None
no_fault true b f g bad e = cc
no_fault false true f g bad e = cc
no_fault false false f g None e = refl
no_fault false false f g (Some at) e = cc

-- a word with no fault has no bad byte
pub clean_word : (most : ℕ) (bad : Option ℕ) (bytes : List ℕ) → word_fault most bad bytes ≡ None → bad ≡ None
clean_word most bad bytes e = no_fault (length bytes == 0) (nat_lt most (length bytes)) _ _ bad e

-- where no byte fails a test, each passes it
pub all_pass : (test : ℕ → Bool) (bytes : List ℕ) → position (λ b. not (test b)) bytes ≡ None → (i : ℕ)
    → i < length bytes → not (not (test (get_or bytes i 0))) ≡ true
all_pass test bytes e i lt =
    let whole = not_there (nat_lt (position_or_len (λ b. not (test b)) bytes) (length bytes)) _ e in
    let reach : i < prefix_len (λ b. not (not (test b))) bytes = grind (arith, whole, lt) in
    prefix_len_passes (λ b. not (not (test b))) bytes i 0 reach

pub ascii_name_byte : (b : ℕ) → is_name_byte b ≡ true → b < 128
ascii_name_byte b e = grind (arith, e)

pub ascii_token_byte : (b : ℕ) → is_token_byte b ≡ true → b < 128
ascii_token_byte b e = grind (arith, e)

pub ascii_zone_byte : (b : ℕ) → is_zone_byte b ≡ true → b < 128
ascii_zone_byte b e = grind (arith, e)

-- past its end a list of bytes shows 0
past_end : (bytes : List ℕ) (i : ℕ) → length bytes ≤ i → get_or bytes i 0 < 128
past_end bytes i h = rw (get_or_past bytes i 0 h) (lit< tt)

-- a list whose every byte is below 128 is ASCII
ascii_below : (bytes : List ℕ) → ((i : ℕ) → i < length bytes → get_or bytes i 0 < 128) → IsAscii bytes
ascii_below bytes h i = elim (cases_lt i (length bytes)) [ inl lt ↦ h i lt | inr ge ↦ past_end bytes i ge ]

pub IsAscii-name : (bytes : List ℕ) → name_fault bytes ≡ None → IsAscii bytes
IsAscii-name bytes e =
    let clean = clean_word 64 (position (λ b. not (is_name_byte b)) bytes) bytes e in
    ascii_below bytes (λ i lt. ascii_name_byte _ (sym (not_not _) ∙ all_pass is_name_byte bytes clean i lt))

pub IsAscii-token : (bytes : List ℕ) → token_fault bytes ≡ None → IsAscii bytes
IsAscii-token bytes e =
    let clean = clean_word 64 (position (λ b. not (is_token_byte b)) bytes) bytes e in
    ascii_below bytes (λ i lt. ascii_token_byte _ (sym (not_not _) ∙ all_pass is_token_byte bytes clean i lt))

-- a number that passes, with none below it, is the least
pub first_below_found : (test : ℕ → Bool) (i n : ℕ) → first_below test i ≡ None → test i ≡ true → i < n
    → first_below test n ≡ Some i
first_below_found test i zero none holds lt = absurd (omega arith)
first_below_found test i (suc n) none holds lt =
    elim (cases_lt i n) [
      | inl below ↦ rw (first_below_found test i n none holds below) refl
      | inr top ↦ let same : n ≡ i = omega arith in rw (same, none, holds) refl
    ]

or_none : (a b : Option ℕ) → option_or a b ≡ None → a ≡ None
or_none None b e = refl
or_none (Some x) b e = cc

or_none_right : (a b : Option ℕ) → option_or a b ≡ None → b ≡ None
or_none_right None b e = e
or_none_right (Some x) b e = cc

-- where none passes, each fails
pub first_below_none : (test : ℕ → Bool) (n k : ℕ) → first_below test n ≡ None → k < n → test k ≡ false
first_below_none test zero k none lt = absurd (omega arith)
first_below_none test (suc n) k none lt =
    elim (cases_lt k n) [
      | inl below ↦ first_below_none test n k (or_none (first_below test n) _ none) below
      | inr top ↦
          let same : k ≡ n = omega arith in
          rw same (not_there (test n) n (or_none_right (first_below test n) _ none))
    ]

-- a place that is not bad has a byte of a zone's name
zone_byte : (a b c : Bool) → not a || b && c ≡ false → a ≡ true
zone_byte true b c e = refl
zone_byte false b c e = cc

pub IsAscii-zone : (bytes : List ℕ) → zone_name_fault bytes ≡ None → IsAscii bytes
IsAscii-zone bytes e =
    let clean = clean_word 50 (first_below (is_bad_zone_place bytes) (length bytes)) bytes e in
    ascii_below bytes (λ i lt. ascii_zone_byte (get_or bytes i 0)
    (zone_byte (is_zone_byte (get_or bytes i 0)) (get_or bytes i 0 == 47) (is_loose_place bytes i)
    (first_below_none (is_bad_zone_place bytes) (length bytes) i clean lt)))

-- what holds of an answer under a premise that holds
pub if_ok_given : {T E : Type 0} (P : Type 0) (Q : T → Type 0) (r : Result T E) → P → IfOk r (λ t. P → Q t) → IfOk r Q
if_ok_given P Q (Ok x) p h = h p
if_ok_given P Q (Err e) p h = h
