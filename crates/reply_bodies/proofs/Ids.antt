-- The text of an id is text.
use Rattle.std.proofs.Common.{◌≡◌, ℕ, true, nat_lt, List, [], ◌∷◌, refl}
use Rattle.std.specs.Int.{w32, w64, to_be_bytes}
use Rattle.std.specs.List.{list_all}
use Rattle.std.specs.Str.{IsAscii, IsUtf8}
use Rattle.std.proofs.lemmas.Bool.{and_parts, ltb-true}
use Rattle.std.proofs.lemmas.Str.{IsAscii-append, IsUtf8-from_ascii}
use Rattle.std.proofs.lemmas.Str.Ascii.{IsAscii-nil, IsAscii-cons}
use Rattle.hex.specs.Hex.{encode_lower, lower_digits}
use Rattle.hex.proofs.HexLemmas.{IsAscii-encode_with}
use Rattle.plain_words.specs.Ids.{id_text}

IsAscii-by_test : (bs : List ℕ) → list_all (λ b. nat_lt b 128) bs ≡ true → IsAscii bs
IsAscii-by_test [] h = IsAscii-nil
IsAscii-by_test (b ∷ bs) h =
    let parts = and_parts (nat_lt b 128) (list_all (λ x. nat_lt x 128) bs) h in
    IsAscii-cons b bs (ltb-true b 128 parts.0) (IsAscii-by_test bs parts.1)

IsAscii-digits : IsAscii lower_digits
IsAscii-digits = IsAscii-by_test lower_digits refl

pub IsUtf8-id_text : (inc instant : ℕ) → IsUtf8 (id_text inc instant)
IsUtf8-id_text inc instant =
    let first = IsAscii-encode_with lower_digits (to_be_bytes w32 inc) IsAscii-digits in
    let second = IsAscii-encode_with lower_digits (to_be_bytes w64 instant) IsAscii-digits in
    IsUtf8-from_ascii (id_text inc instant) (IsAscii-append (encode_lower (to_be_bytes w32 inc)) (encode_lower (to_be_bytes w64 instant)) first second)
