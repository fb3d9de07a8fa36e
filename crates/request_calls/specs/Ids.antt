-- The id of an occurrence, as a path names it.
use Rattle.std.specs.Prelude.{ℕ, if◌then◌else◌, Option, Some, None, Result, Ok, Err, List, [], take, drop}
use Rattle.std.specs.Int.{w32, w64, from_be_bytes}
use Rattle.hex.specs.Hex.{decode_of}
use Rattle.hex.specs.declared.error.FromHexError.{FromHexError}
use Rattle.plain_words.specs.Ids.{is_id}

-- the bytes that were decoded
abbrev pub bytes_of : Result (List ℕ) FromHexError → List ℕ
bytes_of (Ok bytes) = bytes
bytes_of (Err fault) = []

-- the incarnation and the instant of an id: 8 and 16 lower-case hexadecimal digits
abbrev pub execution_word : List ℕ → Option (ℕ × ℕ)
execution_word text =
    if is_id text
    then Some (from_be_bytes w32 (bytes_of (decode_of (take 8 text))), from_be_bytes w64 (bytes_of (decode_of (drop 8 text))))
    else None
