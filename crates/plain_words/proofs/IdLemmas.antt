-- Lower-case hexadecimal text is what its bytes are written as, and an id has one incarnation and instant.
use Rattle.std.proofs.Common.{nat_lt, ◌≡◌, ℕ, zero, suc, ◌+◌, ◌*◌, ◌/◌, ◌%◌, ◌^◌, ◌<◌, ◌==◌, Bool, true, false, not, ◌&&◌, ◌||◌, List, [], ◌∷◌, ◌++◌, length, take, drop, slice_index, Option, Some, None, unwrap_or, Result, Ok, Err, refl, sym, ap, ◌∙◌, arith, ◌-◌, length-drop, inl, inr}
use Rattle.std.specs.Prelude.{MatchResult}
use Rattle.std.specs.List.{list_all}
use Rattle.std.specs.Int.{w32, w64, to_be_bytes, from_be_bytes, bytes_high_first}
use Rattle.std.proofs.lemmas.Bool.{and_parts, cases_lt, eqb-true}
use Rattle.std.proofs.lemmas.List.{take-append-drop, take_all}
use Rattle.std.proofs.lemmas.List.Folds.{list_all-append}
use Rattle.std.proofs.lemmas.List.Sums.{AllPass-from_list_all}
use Rattle.std.proofs.lemmas.Nat.{be_bytes_4, be_bytes_8, from_be_bytes-to_be_bytes_4, from_be_bytes-to_be_bytes_8}
use Rattle.hex.specs.Hex.{◌>>=◌, IsBytes, decode_of, decode_pairs, decode_sized, digit_or_error, encode_lower, encode_with, hex_digit_value, is_hex_digit, lower_digits, pair_value, value_at}
use Rattle.hex.specs.declared.error.FromHexError.{FromHexError}
use Rattle.hex.proofs.HexLemmas.{decode_of-digits, decode_of-encode_lower, decode_of-even, decode_sized-twice}
use borrow.Rule.Slice.PartMut.{put_mid}
use Rattle.plain_words.specs.Ids.{id_text, is_id, is_id_byte}

-- ---- each lower-case digit reads as a value below 16, and that value is written as this digit

-- the value of a digit, or 99 where it is none
abbrev value_of : ℕ → ℕ
value_of c = unwrap_or (hex_digit_value c) 99

abbrev writes_back : ℕ → Bool
writes_back c = not (is_id_byte c) || is_hex_digit c && (slice_index lower_digits (value_of c) == c) && nat_lt (value_of c) 16

-- a test of each number below a bound
abbrev each_below : (ℕ → Bool) → ℕ → Bool
each_below test zero = true
each_below test (suc n) = test n && each_below test n

each_below-at : (test : ℕ → Bool) (n k : ℕ) → each_below test n ≡ true → k < n → test k ≡ true
each_below-at test zero k h lt = absurd (omega arith)
each_below-at test (suc n) k h lt =
    let parts = and_parts (test n) (each_below test n) h in
    elim (cases_lt k n) [
      | inl below ↦ each_below-at test n k parts.1 below
      | inr top ↦ let e : k ≡ n = omega arith in rw e parts.0
    ]

small_digit : (c : ℕ) → is_id_byte c ≡ true → c < 103
small_digit c e = grind (arith, e)

or_else : (a b : Bool) → a ≡ true → not a || b ≡ true → b ≡ true
or_else true b e h = h
or_else false b e h = cc

-- what is known of a lower-case digit
record Digit (c : ℕ) : Type 0 where
  hex : is_hex_digit c ≡ true
  back : slice_index lower_digits (value_of c) ≡ c
  small : value_of c < 16

digit_of : (c : ℕ) → is_id_byte c ≡ true → Digit c
digit_of c e =
    let test = or_else (is_id_byte c) _ e (each_below-at writes_back 103 c refl (small_digit c e)) in
    let parts = and_parts (is_hex_digit c && (slice_index lower_digits (value_of c) == c)) _ test in
    let front = and_parts (is_hex_digit c) _ parts.0 in
    record { hex = front.0; back = eqb-true _ _ front.1; small = grind (arith, parts.1) }

pub hex_digits : (s : List ℕ) → list_all is_id_byte s ≡ true → list_all is_hex_digit s ≡ true
hex_digits [] e = refl
hex_digits (c ∷ s) e =
    let parts = and_parts (is_id_byte c) (list_all is_id_byte s) e in
    rw ((digit_of c parts.0).hex, hex_digits s parts.1) refl

-- ---- decoding, and writing the bytes again

bind_ok : {A B : Type 0} (r : Result A FromHexError) (f : A → Result B FromHexError) (y : B)
    → (r >>= f) ≡ Ok y → (x : A) × (r ≡ Ok x) × (f x ≡ Ok y)
bind_ok (Ok x) f y h = (x, refl, h)
bind_ok (Err e) f y h = cc h

digit_read : (c i : ℕ) (o : Option ℕ) (v : ℕ) → digit_or_error c i o ≡ Ok v → unwrap_or o 99 ≡ v
digit_read c i (Some w) v h = cc
digit_read c i None v h = cc h

ok_same : {A : Type 0} (x y : A) → (let left : Result A FromHexError = Ok x in left ≡ Ok y) → x ≡ y
ok_same x y e = cc

pub encode_lower-decode : (i : ℕ) (s bytes : List ℕ) → list_all is_id_byte s ≡ true → decode_pairs i s ≡ Ok bytes → encode_lower bytes ≡ s
unfolding encode_with decode_pairs
encode_lower-decode i [] bytes d h = rw (← ok_same [] bytes h) refl
encode_lower-decode i (a ∷ []) bytes d h = cc h
encode_lower-decode i (a ∷ b ∷ rest) bytes d h =
    let front = and_parts (is_id_byte a) _ d in
    let back = and_parts (is_id_byte b) _ front.1 in
    let p0 = bind_ok (pair_value a b i) _ bytes h in
    let p1 = bind_ok (value_at a i) _ p0.0 p0.1 in
    let p2 = bind_ok (value_at b (i + 1)) _ p0.0 p1.2 in
    let p3 = bind_ok (decode_pairs (i + 2) rest) _ bytes p0.2 in
    let ih = encode_lower-decode (i + 2) rest p3.0 back.1 p3.1 in
    let high = digit_of a front.0 in
    let low = digit_of b back.0 in
    let va : value_of a ≡ p1.0 = digit_read a i (hex_digit_value a) p1.0 p1.1 in
    let vb : value_of b ≡ p2.0 = digit_read b (i + 1) (hex_digit_value b) p2.0 p2.1 in
    let byte : p1.0 * 16 + p2.0 ≡ p0.0 = ok_same _ _ p2.2 in
    let ha : p1.0 < 16 = rw (← va) high.small in
    let hb : p2.0 < 16 = rw (← vb) low.small in
    let up : p0.0 / 16 ≡ value_of a = omega arith in
    let down : p0.0 % 16 ≡ value_of b = omega arith in
    rw (← ok_same _ bytes p3.2) (rw (up, down, high.back, low.back, ih) refl)

-- ---- ids

IsBytes-high_first : (k n : ℕ) → IsBytes (bytes_high_first k n)
IsBytes-high_first zero n i = omega arith
IsBytes-high_first (suc zero) n zero = omega arith
IsBytes-high_first (suc (suc k)) n zero = omega arith
IsBytes-high_first (suc k) n (suc i) = IsBytes-high_first k n i

pub print_parts : (inc instant : ℕ) → put_mid 8 16 (encode_lower (to_be_bytes w32 inc) ++ 0 ∷ 0 ∷ 0 ∷ 0 ∷ 0 ∷ 0 ∷ 0 ∷ 0 ∷ 0 ∷ 0 ∷ 0 ∷ 0 ∷ 0 ∷ 0 ∷ 0 ∷ 0 ∷ [])
    (encode_lower (to_be_bytes w64 instant)) ≡ id_text inc instant
unfolding encode_with
print_parts inc instant = refl

-- what was written where the text decodes
written : (d : Result (List ℕ) FromHexError) (r : Result Unit FromHexError) (new bytes : List ℕ) → d ≡ Ok bytes
    → MatchResult d (λ xs. (r ≡ Ok tt) × (new ≡ xs)) (λ e. r ≡ Err e) → new ≡ bytes
written (Ok xs) r new bytes is h = h.1 ∙ ok_same xs bytes is
written (Err e) r new bytes is h = cc is

-- decoding lower-case digits leaves the bytes that are written as they are
pub read_back : (s out new : List ℕ) (r : Result Unit FromHexError) → list_all is_id_byte s ≡ true → length s ≡ 2 * length out
    → MatchResult (decode_sized s (length out)) (λ xs. (r ≡ Ok tt) × (new ≡ xs)) (λ e. r ≡ Err e) → encode_lower new ≡ s
read_back s out new r digits twice h =
    let even : length s % 2 ≡ 0 = omega arith in
    let found = decode_of-digits s even (AllPass-from_list_all is_hex_digit s (hex_digits s digits)) in
    let sized = decode_sized-twice s (length out) twice ∙ found.1 in
    let is = written (decode_sized s (length out)) r new found.0 sized h in
    rw is (encode_lower-decode 0 s found.0 digits (sym (decode_of-even s even) ∙ found.1))

-- the parts of an id
pub id_parts : (bytes : List ℕ) → is_id bytes ≡ true → (length bytes ≡ 24) × (list_all is_id_byte (take 8 bytes) ≡ true)
    × (list_all is_id_byte (take (length bytes - 8) (drop 8 bytes)) ≡ true)
id_parts bytes e =
    let parts = and_parts (length bytes == 24) (list_all is_id_byte bytes) e in
    let len = eqb-true (length bytes) 24 parts.0 in
    let all : list_all is_id_byte (take 8 bytes ++ drop 8 bytes) ≡ true = rw (take-append-drop 8 bytes) parts.1 in
    let both = and_parts _ _ (sym (list_all-append is_id_byte (take 8 bytes) (drop 8 bytes)) ∙ all) in
    (len, both.0, rw (take_all (length bytes - 8) (drop 8 bytes) (omega (arith, length-drop 8 bytes))) both.1)

pub id_back : (bytes inc instant : List ℕ) (a b : ℕ) → length bytes ≡ 24 → length inc ≡ 4 → length instant ≡ 8
    → IsBytes inc → IsBytes instant → encode_lower inc ≡ take 8 bytes
    → encode_lower instant ≡ take (length bytes - 8) (drop 8 bytes)
    → a ≡ from_be_bytes w32 inc → b ≡ from_be_bytes w64 instant → bytes ≡ id_text a b
id_back bytes inc instant a b len four eight small small' front back ia ib =
    let rest = take_all (length bytes - 8) (drop 8 bytes) (omega (arith, length-drop 8 bytes)) in
    rw (be_bytes_4 inc a four small ia, be_bytes_8 instant b eight small' ib, front, back, rest) (sym (take-append-drop 8 bytes))

same_bytes : (xs ys : List ℕ) → IsBytes xs → IsBytes ys → encode_lower xs ≡ encode_lower ys → xs ≡ ys
same_bytes xs ys hx hy e =
    ok_same xs ys (sym (decode_of-encode_lower xs hx) ∙ ap decode_of e ∙ decode_of-encode_lower ys hy)

-- an id shows one incarnation and one instant
pub id_same : (a b c d : ℕ) → a < 2 ^ 32 → c < 2 ^ 32 → b < 2 ^ 64 → d < 2 ^ 64 → id_text a b ≡ id_text c d → (a ≡ c) × (b ≡ d)
unfolding encode_with
id_same a b c d ha hc hb hd e =
    let front : encode_lower (to_be_bytes w32 a) ≡ encode_lower (to_be_bytes w32 c) = ap (take 8) e in
    let back : encode_lower (to_be_bytes w64 b) ≡ encode_lower (to_be_bytes w64 d) = ap (drop 8) e in
    let ea = same_bytes (to_be_bytes w32 a) (to_be_bytes w32 c) (IsBytes-high_first 4 a) (IsBytes-high_first 4 c) front in
    let eb = same_bytes (to_be_bytes w64 b) (to_be_bytes w64 d) (IsBytes-high_first 8 b) (IsBytes-high_first 8 d) back in (
      sym (from_be_bytes-to_be_bytes_4 a ha) ∙ ap (from_be_bytes w32) ea ∙ from_be_bytes-to_be_bytes_4 c hc,
      sym (from_be_bytes-to_be_bytes_8 b hb) ∙ ap (from_be_bytes w64) eb ∙ from_be_bytes-to_be_bytes_8 d hd,
    )

lower_digit : (d : ℕ) → d < 16 → is_id_byte (slice_index lower_digits d) ≡ true
lower_digit d lt = each_below-at (λ k. is_id_byte (slice_index lower_digits k)) 16 d refl lt

lower_text : (xs : List ℕ) → IsBytes xs → list_all is_id_byte (encode_lower xs) ≡ true
unfolding encode_with
lower_text [] h = refl
lower_text (x ∷ xs) h =
    let fits : x < 256 = h 0 in
    let high = lower_digit (x / 16) (omega arith) in
    let low = lower_digit (x % 16) (omega arith) in
    rw (high, low, lower_text xs (λ i. h (suc i))) refl

length-id_text : (a b : ℕ) → (length (id_text a b) == 24) ≡ true
unfolding encode_with
length-id_text a b = refl

-- what is printed is an id
pub is_id-id_text : (a b : ℕ) → is_id (id_text a b) ≡ true
is_id-id_text a b =
    let all = list_all-append is_id_byte (encode_lower (to_be_bytes w32 a)) (encode_lower (to_be_bytes w64 b)) in
    rw (length-id_text a b, all, lower_text _ (IsBytes-high_first 4 a), lower_text _ (IsBytes-high_first 8 b)) refl
