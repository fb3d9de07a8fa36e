-- Numbers as words give them.
use Rattle.std.specs.Prelude.{ℕ, ◌==◌, nat_le, Bool, true, false, not, ◌&&◌, if◌then◌else◌, Option, Some, None, List, [], ◌∷◌}
use Rattle.std.specs.List.{list_all}
use Rattle.std.specs.Char.{is_ascii_digit}
use Rattle.std.specs.Str.Parse.{digits_value}

-- the digit 0
abbrev pub zero_digit : ℕ
zero_digit = 48

-- there is a first byte, which is no 0 unless it stands alone
abbrev pub begins_well : List ℕ → Bool
begins_well [] = false
begins_well (only ∷ []) = true
begins_well (first ∷ second ∷ rest) = not (first == zero_digit)

-- decimal digits without a sign or a leading zero
abbrev pub is_number : List ℕ → Bool
is_number word = begins_well word && list_all is_ascii_digit word

-- the number that a word writes, where it is within limits
abbrev pub number_between : ℕ → ℕ → List ℕ → Option ℕ
number_between least greatest word =
    if is_number word && (nat_le least (digits_value 10 word) && nat_le (digits_value 10 word) greatest)
    then Some (digits_value 10 word) else None
