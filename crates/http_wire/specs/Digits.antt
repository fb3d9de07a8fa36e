-- Numbers that are written in decimal digits.
use Rattle.std.specs.Prelude.{ℕ, nat_le, ◌&&◌, if◌then◌else◌, List, length, Option, Some, None}
use Rattle.std.specs.List.{list_all}
use Rattle.std.specs.Char.{is_ascii_digit}
use Rattle.std.specs.Str.Parse.{digits_value}

-- the number that 1 to so many digits write, where it is at most a limit
abbrev pub number_within : ℕ → ℕ → List ℕ → Option ℕ
number_within most limit digits =
    if nat_le 1 (length digits) && nat_le (length digits) most && list_all is_ascii_digit digits
    && nat_le (digits_value 10 digits) limit
    then Some (digits_value 10 digits) else None
