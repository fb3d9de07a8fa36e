-- Ids of occurrences and shards of incarnations.
use Rattle.std.specs.Prelude.{ℕ, ◌%◌, ◌==◌, ◌&&◌, ◌||◌, Bool, List, ◌++◌, length}
use Rattle.std.specs.Int.{w32, w64, to_be_bytes, is_in_range}
use Rattle.std.specs.List.{list_all}
use Rattle.hex.specs.Hex.{encode_lower}
use Rattle.plain_words.specs.declared.limits.TheConstants.{SHARDS}

-- the shard of an incarnation
abbrev pub shard_of : ℕ → ℕ
shard_of inc = inc % SHARDS

-- the id of an occurrence: 8 lower-case hexadecimal digits of the incarnation, then 16 of the instant
abbrev pub id_text : ℕ → ℕ → List ℕ
id_text inc instant = encode_lower (to_be_bytes w32 inc) ++ encode_lower (to_be_bytes w64 instant)

-- a lower-case hexadecimal digit, '0' to '9' or 'a' to 'f'
abbrev pub is_id_byte : ℕ → Bool
is_id_byte b = is_in_range 48 57 b || is_in_range 97 102 b

-- 24 lower-case hexadecimal digits
abbrev pub is_id : List ℕ → Bool
is_id bytes = (length bytes == 24) && list_all is_id_byte bytes
