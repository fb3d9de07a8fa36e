-- The words that callers choose: names of schedules and groups, client tokens, names of time zones, text.
use Rattle.std.specs.Prelude.{◌≡◌, ℕ, zero, suc, ◌-◌, ◌==◌, nat_lt, Bool, not, ◌&&◌, ◌||◌, if◌then◌else◌, Option, Some, None, List, length, slice_index, position}
use Rattle.std.specs.Option.{option_map, option_or}
use Rattle.std.specs.Char.{is_ascii_alphanumeric}
use Rattle.std.specs.Str.{IsUtf8}
use Rattle.std.specs.Str.Lossy.{utf8_valid_len}
use Rattle.plain_words.specs.declared.word.NameFault.{NameFault}
use Rattle.plain_words.specs.declared.word.NameFault.TheVariants.{Empty, Long, BadByte, OutOfMemory}
use Rattle.plain_words.specs.declared.text.TextFault.{TextFault}
use Rattle.plain_words.specs.declared.text.TextFault.TheVariants.{BadByte as NotUtf8, OutOfMemory as NoMemory}
use Rattle.plain_words.specs.declared.limits.TheConstants.{LONGEST_NAME, LONGEST_TOKEN, LONGEST_ZONE_NAME}
use Rattle.plain_words.specs.Bytes.{plus, dash, dot, slash, underscore}

-- the fault of a word of at most so many bytes, given the place of its first bad byte
abbrev pub word_fault : ℕ → Option ℕ → List ℕ → Option NameFault
word_fault most bad bytes =
    if length bytes == 0 then Some Empty
    else (if nat_lt most (length bytes) then Some (Long (length bytes)) else option_map (λ at. BadByte at) bad)

-- what a reader of words answers: the fault of the word, or want of memory where the word has none
abbrev pub IsFault : NameFault → Option NameFault → Type 0
IsFault OutOfMemory found = found ≡ None
IsFault Empty found = found ≡ Some Empty
IsFault (Long len) found = found ≡ Some (Long len)
IsFault (BadByte at) found = found ≡ Some (BadByte at)

-- a byte of a name: a letter, a digit, '-', '_' or '.'
abbrev pub is_name_byte : ℕ → Bool
is_name_byte b = is_ascii_alphanumeric b || b == dash || b == underscore || b == dot

-- the fault of a name: 1 to 64 bytes, each a byte of a name
abbrev pub name_fault : List ℕ → Option NameFault
name_fault bytes = word_fault LONGEST_NAME (position (λ b. not (is_name_byte b)) bytes) bytes

-- a byte of a client token: a letter, a digit, '-' or '_'
abbrev pub is_token_byte : ℕ → Bool
is_token_byte b = is_ascii_alphanumeric b || b == dash || b == underscore

-- the fault of a client token: 1 to 64 bytes, each a byte of a token
abbrev pub token_fault : List ℕ → Option NameFault
token_fault bytes = word_fault LONGEST_TOKEN (position (λ b. not (is_token_byte b)) bytes) bytes

-- the least number below a bound that passes a test
abbrev pub first_below : (ℕ → Bool) → ℕ → Option ℕ
first_below test zero = None
first_below test (suc n) = option_or (first_below test n) (if test n then Some n else None)

-- a byte of a zone's name: a letter, a digit, '_', '-', '+' or '/'
abbrev pub is_zone_byte : ℕ → Bool
is_zone_byte b = is_ascii_alphanumeric b || b == underscore || b == dash || b == plus || b == slash

-- a slash here parts nothing: it is first, last or behind another slash
abbrev pub is_loose_place : List ℕ → ℕ → Bool
is_loose_place bytes at = at == 0 || at == length bytes - 1 || slice_index bytes (at - 1) == slash

-- a place whose byte may not stand there
abbrev pub is_bad_zone_place : List ℕ → ℕ → Bool
is_bad_zone_place bytes at =
    not (is_zone_byte (slice_index bytes at)) || (slice_index bytes at == slash) && is_loose_place bytes at

-- the fault of a zone's name: 1 to 50 bytes, each of them one that may stand at its place
abbrev pub zone_name_fault : List ℕ → Option NameFault
zone_name_fault bytes = word_fault LONGEST_ZONE_NAME (first_below (is_bad_zone_place bytes) (length bytes)) bytes

-- what a reader of text answers: the bytes are UTF-8 up to there and no further, or memory was wanted for a text
abbrev pub IsTextFault : TextFault → List ℕ → Type 0
IsTextFault (NotUtf8 at) bytes = ¬ (IsUtf8 bytes) × (at ≡ utf8_valid_len bytes)
IsTextFault NoMemory bytes = IsUtf8 bytes
