-- The rules that the fields of a payload keep, as tests. Each is a rule of a valid step.
use Rattle.std.specs.Prelude.{ℕ, ◌==◌, nat_le, nat_lt, Bool, true, ◌&&◌, ◌||◌, List, length, is_none}
use Rattle.std.specs.Str.{is_utf8}
use Rattle.plain_words.specs.Words.{name_fault, token_fault, zone_name_fault}
use Rattle.plain_words.specs.Moments.{last_moment}
use Rattle.plain_words.specs.declared.limits.TheConstants.{LONGEST_DESCRIPTION, LONGEST_EXPRESSION, LONGEST_ARN, LONGEST_INPUT, LONGEST_ZONE, LEAST_AGE, LONGEST_AGE, MOST_PAIRS, SHARDS}
use Rattle.expressions.specs.ExpressionFaults.{fault}
use Rattle.sched_plain.specs.Validity.{character_count}

-- any number of its width
abbrev pub any : ℕ → Bool
any n = true

abbrev pub is_moment : ℕ → Bool
is_moment n = nat_le n last_moment

-- numbers of incarnations and of attempts count from 1
abbrev pub counts_from_one : ℕ → Bool
counts_from_one n = nat_le 1 n

abbrev pub is_shard : ℕ → Bool
is_shard n = nat_lt n SHARDS

-- one of so many codes, which count from 1
abbrev pub is_code : ℕ → ℕ → Bool
is_code most n = nat_le 1 n && nat_le n most

-- 0 or 1
abbrev pub is_flag : ℕ → Bool
is_flag n = nat_lt n 2

-- at most this
abbrev pub at_most : ℕ → ℕ → Bool
at_most most n = nat_le n most

abbrev pub is_status : ℕ → Bool
is_status n = n == 0 || nat_le 100 n && nat_le n 999

abbrev pub is_age : ℕ → Bool
is_age n = nat_le LEAST_AGE n && nat_le n LONGEST_AGE

-- how many pairs an Enter has
abbrev pub is_count : ℕ → Bool
is_count n = is_code MOST_PAIRS n

-- how far a chosen moment may lie behind its instant: within the longest window
abbrev pub is_offset : ℕ → Bool
is_offset n = nat_le n 86_399

abbrev pub is_name : List ℕ → Bool
is_name text = is_none (name_fault text)

abbrev pub is_zone_name : List ℕ → Bool
is_zone_name text = is_none (zone_name_fault text)

-- a text without a byte
abbrev pub is_empty : List ℕ → Bool
is_empty text = length text == 0

-- a client token, or none
abbrev pub is_token_or_none : List ℕ → Bool
is_token_or_none text = is_empty text || is_none (token_fault text)

-- UTF-8 of so many characters
abbrev pub is_text : ℕ → ℕ → List ℕ → Bool
is_text least most text =
    is_utf8 text && nat_le least (character_count text) && nat_le (character_count text) most

abbrev pub is_description : List ℕ → Bool
is_description = is_text 0 LONGEST_DESCRIPTION

-- a text that spells an expression
abbrev pub is_expression : List ℕ → Bool
is_expression text = is_text 1 LONGEST_EXPRESSION text && is_none (fault text)

abbrev pub is_arn : List ℕ → Bool
is_arn = is_text 1 LONGEST_ARN

abbrev pub is_arn_or_none : List ℕ → Bool
is_arn_or_none text = is_empty text || is_arn text

-- what a target is sent, or nothing
abbrev pub is_input_or_none : List ℕ → Bool
is_input_or_none text = is_empty text || is_utf8 text && nat_le (length text) LONGEST_INPUT

-- the bytes of a zone
abbrev pub is_zone : List ℕ → Bool
is_zone bytes = nat_le (length bytes) LONGEST_ZONE
