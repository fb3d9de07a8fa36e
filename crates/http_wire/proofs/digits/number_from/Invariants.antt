use Rattle.std.proofs.Common.{◌≡◌, ◌<◌, ◌^◌, take, true}
use Rattle.std.specs.List.{list_all}
use Rattle.std.specs.Char.{is_ascii_digit}
use Rattle.std.specs.Str.Parse.{digits_value}
use Rattle.http_wire.proofs.digits.number_from.Given as goal

-- the bytes so far are digits, and write the number
abbrev pub invariant-loop-byte : goal.invariant-loop-byte
invariant-loop-byte l = record {
  number : l.number ≡ digits_value 10 (take l.byte-index l.digits);
  digits : list_all is_ascii_digit (take l.byte-index l.digits) ≡ true;
  small : l.number < 10 ^ l.byte-index;
}
