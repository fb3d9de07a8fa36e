-- What texts are values of fields.
use Rattle.std.specs.Prelude.{ℕ, ◌+◌, ◌==◌, nat_le, nat_eq, Bool, true, false, ◌&&◌, is_none, is_some, if◌then◌else◌, Option, Some, None, List, length, take, drop, position, codes}
use Rattle.std.specs.List.{list_all, starts_with}
use Rattle.std.specs.Option.{option_map, option_and_then}
use Rattle.std.specs.Str.{is_utf8, bytes_eq}
use Rattle.plain_words.specs.Bytes.{colon}
use Rattle.plain_words.specs.Lists.{some_pass}
use Rattle.plain_words.specs.Words.{name_fault, token_fault, zone_name_fault, is_token_byte}
use Rattle.plain_words.specs.declared.limits.TheConstants.{LONGEST_ARN, LONGEST_EXPRESSION, LONGEST_INPUT}
use Rattle.expressions.specs.declared.expression.Expr.{Expr}
use Rattle.expr_grammar.specs.Spelled.{spelled}
use Rattle.sched_plain.specs.Validity.{character_count}
use Rattle.target_link.specs.Address.{target_spot}

-- the value, where it passes a test
abbrev pub kept : {A : Type 0} → (A → Bool) → Option A → Option A
kept test None = None
kept test (Some x) = if test x then Some x else None

-- UTF-8 of so many characters
abbrev pub has_characters : ℕ → ℕ → List ℕ → Bool
has_characters least most text =
    is_utf8 text && (nat_le least (character_count text) && nat_le (character_count text) most)

-- a text of so many characters
abbrev pub text_word : ℕ → ℕ → List ℕ → Option (List ℕ)
text_word least most text = kept (has_characters least most) (Some text)

-- the name of a schedule or a group
abbrev pub name_word : List ℕ → Option (List ℕ)
name_word text = kept (λ word. is_none (name_fault word)) (Some text)

-- a client token
abbrev pub token_word : List ℕ → Option (List ℕ)
token_word text = kept (λ word. is_none (token_fault word)) (Some text)

-- the name of a time zone
abbrev pub zone_word : List ℕ → Option (List ℕ)
zone_word text = kept (λ word. is_none (zone_name_fault word)) (Some text)

-- an expression: its text, and what that spells
abbrev pub expression_word : List ℕ → Option (List ℕ × Expr)
expression_word text =
    option_and_then (λ word. option_map (λ expression. (word, expression)) (spelled word)) (text_word 1 LONGEST_EXPRESSION text)

-- the address of a target
abbrev pub is_target : List ℕ → Bool
is_target text = is_some (target_spot text)

-- the address of a target, of so many characters
abbrev pub target_word : List ℕ → Option (List ℕ)
target_word text = kept is_target (text_word 1 LONGEST_ARN text)

-- what stands before the first such mark and what behind it, where there is one
abbrev pub around : ℕ → List ℕ → Option (List ℕ × List ℕ)
around mark text = option_map (λ at. (take at text, drop (at + 1) text)) (position (λ byte. byte == mark) text)

-- one or more letters, digits, `-` and `_`
abbrev pub is_part : List ℕ → Bool
is_part text = nat_le 1 (length text) && list_all is_token_byte text

-- an account and a queue, with a colon between them
abbrev pub are_account_and_queue : List ℕ → Bool
are_account_and_queue text = some_pass (λ parts. is_part parts.0 && is_part parts.1) (around colon text)

-- a region, an account and a queue, with colons between them
abbrev pub are_queue_parts : List ℕ → Bool
are_queue_parts text = some_pass (λ parts. is_part parts.0 && are_account_and_queue parts.1) (around colon text)

-- what stands behind a front
abbrev pub behind : List ℕ → List ℕ → Option (List ℕ)
behind front text = if starts_with nat_eq text front then Some (drop (length front) text) else None

-- the arn of a queue: `arn:aws:sqs:`, region, account and queue
abbrev pub is_queue_arn : List ℕ → Bool
is_queue_arn text = some_pass are_queue_parts (behind (codes "arn:aws:sqs:") text)

-- the arn of a queue, of so many characters
abbrev pub queue_word : List ℕ → Option (List ℕ)
queue_word text = kept is_queue_arn (text_word 1 LONGEST_ARN text)

-- UTF-8 of so many bytes
abbrev pub is_input : List ℕ → Bool
is_input text = is_utf8 text && (nat_le 1 (length text) && nat_le (length text) LONGEST_INPUT)

-- the input that a target is sent
abbrev pub input_word : List ℕ → Option (List ℕ)
input_word text = kept is_input (Some text)

-- whether it is the first of two words; none where it is neither
abbrev pub one_of : List ℕ → List ℕ → List ℕ → Option Bool
one_of first second text =
    if bytes_eq text first then Some true else (if bytes_eq text second then Some false else None)
