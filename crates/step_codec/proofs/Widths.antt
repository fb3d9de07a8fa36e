-- Numbers in so many bytes: what is read was written, and what was written is read.
use Rattle.std.proofs.Common.{◌≡◌, ℕ, ◌+◌, ◌%◌, ◌^◌, ◌<◌, List, [], ◌∷◌, length, get_or, take, drop, refl, ap, arith, inl, inr}
use Rattle.std.specs.Int.{byte_len, from_be_bytes}
use Rattle.std.proofs.lemmas.Bool.{cases_lt}
use Rattle.std.proofs.lemmas.List.{length-take, get_or-drop, get_or-take, get_or_past}
use Rattle.std.proofs.lemmas.Nat.{be_bytes_2, be_bytes_4, be_bytes_8, from_be_bytes-to_be_bytes_2, from_be_bytes-to_be_bytes_4, from_be_bytes-to_be_bytes_8}
use Rattle.step_codec.specs.Cells.{Size, One, Two, Four, Eight, width_of, big_endian}

abbrev pub IsBytes : List ℕ → Type 0
IsBytes bytes = (i : ℕ) → get_or bytes i 0 < 256

pub IsBytes-drop : (n : ℕ) (bytes : List ℕ) → IsBytes bytes → IsBytes (drop n bytes)
IsBytes-drop n bytes h i = rw get_or-drop (h (n + i))

pub IsBytes-take : (n : ℕ) (bytes : List ℕ) → IsBytes bytes → IsBytes (take n bytes)
IsBytes-take n bytes h i =
    elim (cases_lt i n) [
      | inl lt ↦ rw (get_or-take n bytes i 0 lt) (h i)
      | inr le ↦ rw (get_or_past (take n bytes) i 0 (omega (arith, length-take n bytes))) (omega arith)
    ]

-- the first number that does not fit
abbrev pub limit : Size → ℕ
limit One = 2 ^ 8
limit Two = 2 ^ 16
limit Four = 2 ^ 32
limit Eight = 2 ^ 64

abbrev pub bytes_of : Size → ℕ
bytes_of size = byte_len (width_of size)

pub length-big_endian : (size : Size) (n : ℕ) → length (big_endian size n) ≡ bytes_of size
length-big_endian One n = refl
length-big_endian Two n = refl
length-big_endian Four n = refl
length-big_endian Eight n = refl

one_back : (bytes : List ℕ) → length bytes ≡ 1 → IsBytes bytes → big_endian One (get_or bytes 0 0) ≡ bytes
one_back [] len fits = absurd (omega arith)
one_back (b ∷ []) len fits = let small : b < 256 = fits 0 in let same : b % 256 ≡ b = omega arith in ap (λ (x : ℕ). x ∷ []) same
one_back (b ∷ c ∷ bytes) len fits = absurd (omega arith)

pub number_back : (size : Size) (bytes : List ℕ) → length bytes ≡ bytes_of size → IsBytes bytes → big_endian size (from_be_bytes (width_of size) bytes) ≡ bytes
number_back One bytes len fits = one_back bytes len fits
number_back Two bytes len fits = be_bytes_2 bytes _ len fits refl
number_back Four bytes len fits = be_bytes_4 bytes _ len fits refl
number_back Eight bytes len fits = be_bytes_8 bytes _ len fits refl

pub number_again : (size : Size) (n : ℕ) → n < limit size → from_be_bytes (width_of size) (big_endian size n) ≡ n
number_again One n lt = let same : n % 256 ≡ n = omega arith in same
number_again Two n lt = from_be_bytes-to_be_bytes_2 n lt
number_again Four n lt = from_be_bytes-to_be_bytes_4 n lt
number_again Eight n lt = from_be_bytes-to_be_bytes_8 n lt

pub number_below : (size : Size) (bytes : List ℕ) → IsBytes bytes → from_be_bytes (width_of size) bytes < limit size
number_below One bytes fits = omega (arith, fits 0)
number_below Two bytes fits = omega (arith, fits 0, fits 1)
number_below Four bytes fits = omega (arith, fits 0, fits 1, fits 2, fits 3)
number_below Eight bytes fits = omega (arith, fits 0, fits 1, fits 2, fits 3, fits 4, fits 5, fits 6, fits 7)
