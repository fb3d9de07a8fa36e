-- An id shows the incarnation and the instant that are read from it.
use Rattle.std.proofs.Common.{◌≡◌, ℕ, zero, suc, ◌/◌, ◌%◌, ◌^◌, ◌<◌, ◌==◌, Bool, true, false, ◌&&◌, if◌then◌else◌, List, [], ◌∷◌, length, take, drop, slice_index, Some, None, refl, ap, ◌∙◌, arith, inl, inr}
use Rattle.std.specs.List.{list_all}
use Rattle.std.specs.Int.{w32, w64, to_be_bytes, from_be_bytes, bytes_high_first}
use Rattle.std.proofs.lemmas.Bool.{and_parts, cases_lt}
use Rattle.std.proofs.lemmas.List.Folds.{list_all-append}
use Rattle.std.proofs.lemmas.Nat.{from_be_bytes-to_be_bytes_4, from_be_bytes-to_be_bytes_8}
use Rattle.hex.specs.Hex.{IsBytes, decode_of, encode_lower, encode_with, lower_digits}
use Rattle.hex.proofs.HexLemmas.{decode_of-encode_lower}
use Rattle.plain_words.specs.Ids.{id_text, is_id, is_id_byte}
use Rattle.request_calls.specs.Ids.{bytes_of, execution_word}

-- ---- what is printed is an id

-- a test of each number below a bound
abbrev each_below : (ℕ → Bool) → ℕ → Bool
each_below test zero = true
each_below test (suc n) = test n && each_below test n

each_below-at : (test : ℕ → Bool) (n k : ℕ) → each_below test n ≡ true → k < n → test k ≡ true
each_below-at test zero k h lt = absurd (omega arith)
each_below-at test (suc n) k h lt =
    let parts = and_parts (test n) (each_below test n) h in
    elim (cases_lt k n) [
      | inl below ↦ each_below-at test n k parts.1 below
      | inr top ↦ let e : k ≡ n = omega arith in rw e parts.0
    ]

lower_digit : (d : ℕ) → d < 16 → is_id_byte (slice_index lower_digits d) ≡ true
lower_digit d lt = each_below-at (λ k. is_id_byte (slice_index lower_digits k)) 16 d refl lt

lower_text : (xs : List ℕ) → IsBytes xs → list_all is_id_byte (encode_lower xs) ≡ true
unfolding encode_with
lower_text [] h = refl
lower_text (x ∷ xs) h =
    let fits : x < 256 = h 0 in
    let high = lower_digit (x / 16) (omega arith) in
    let low = lower_digit (x % 16) (omega arith) in
    rw (high, low, lower_text xs (λ i. h (suc i))) refl

high_first : (k n : ℕ) → IsBytes (bytes_high_first k n)
high_first zero n i = omega arith
high_first (suc zero) n zero = omega arith
high_first (suc (suc k)) n zero = omega arith
high_first (suc k) n (suc i) = high_first k n i

length_24 : (a b : ℕ) → (length (id_text a b) == 24) ≡ true
unfolding encode_with
length_24 a b = refl

printed_id : (a b : ℕ) → is_id (id_text a b) ≡ true
printed_id a b =
    let all = list_all-append is_id_byte (encode_lower (to_be_bytes w32 a)) (encode_lower (to_be_bytes w64 b)) in
    rw (length_24 a b, all, lower_text _ (high_first 4 a), lower_text _ (high_first 8 b)) refl

-- ---- and it is read again

front : (a b : ℕ) → take 8 (id_text a b) ≡ encode_lower (to_be_bytes w32 a)
unfolding encode_with
front a b = refl

back : (a b : ℕ) → drop 8 (id_text a b) ≡ encode_lower (to_be_bytes w64 b)
unfolding encode_with
back a b = refl

first_is : (a b : ℕ) → a < 2 ^ 32 → from_be_bytes w32 (bytes_of (decode_of (take 8 (id_text a b)))) ≡ a
first_is a b fits =
    ap (λ (text : List ℕ). from_be_bytes w32 (bytes_of (decode_of text))) (front a b)
    ∙ ap (λ r. from_be_bytes w32 (bytes_of r)) (decode_of-encode_lower (to_be_bytes w32 a) (high_first 4 a))
    ∙ from_be_bytes-to_be_bytes_4 a fits

second_is : (a b : ℕ) → b < 2 ^ 64 → from_be_bytes w64 (bytes_of (decode_of (drop 8 (id_text a b)))) ≡ b
second_is a b fits =
    ap (λ (text : List ℕ). from_be_bytes w64 (bytes_of (decode_of text))) (back a b)
    ∙ ap (λ r. from_be_bytes w64 (bytes_of r)) (decode_of-encode_lower (to_be_bytes w64 b) (high_first 8 b))
    ∙ from_be_bytes-to_be_bytes_8 b fits

-- what reads an id, given the test and the two numbers
by_parts : (test : Bool) (x y a b : ℕ) → test ≡ true → x ≡ a → y ≡ b → (let pair : ℕ × ℕ = (x, y) in if test then Some pair else None) ≡ Some (a, b)
by_parts true x y a b is first second = λ i. Some (first i, second i)
by_parts false x y a b is first second = absurd (let clash : ⊥ = cc in clash)

printed_read : (a b : ℕ) → a < 2 ^ 32 → b < 2 ^ 64 → execution_word (id_text a b) ≡ Some (a, b)
printed_read a b small fits =
    by_parts (is_id (id_text a b)) (from_be_bytes w32 (bytes_of (decode_of (take 8 (id_text a b)))))
    (from_be_bytes w64 (bytes_of (decode_of (drop 8 (id_text a b))))) a b (printed_id a b) (first_is a b small) (second_is a b fits)

-- the text of an incarnation and an instant reads as the two
pub execution_is : (text : List ℕ) (a b : ℕ) → a < 2 ^ 32 → b < 2 ^ 64 → text ≡ id_text a b → execution_word text ≡ Some (a, b)
execution_is text a b small fits is = ap execution_word is ∙ printed_read a b small fits

no_parts : (test : Bool) (x y : ℕ) → test ≡ false → (let pair : ℕ × ℕ = (x, y) in if test then Some pair else None) ≡ None
no_parts true x y is = absurd (let clash : ⊥ = cc in clash)
no_parts false x y is = refl

-- what is no id reads as none
pub execution_none : (text : List ℕ) → is_id text ≡ false → execution_word text ≡ None
execution_none text is =
    no_parts (is_id text) (from_be_bytes w32 (bytes_of (decode_of (take 8 text)))) (from_be_bytes w64 (bytes_of (decode_of (drop 8 text)))) is
