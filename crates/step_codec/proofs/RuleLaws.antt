-- The rules of fields are those of a valid step.
use Rattle.std.proofs.Common.{◌≡◌, ◌⊎◌, ℕ, ◌*◌, ◌^◌, ◌<◌, ◌≤◌, ◌==◌, nat_le, Bool, true, false, ◌&&◌, ◌||◌, List, length, Option, Some, None, refl, arith, inl, inr, lit<, lit≤}
use Rattle.std.specs.Prelude.{is_none}
use Rattle.std.specs.Str.{is_utf8}
use Rattle.std.proofs.lemmas.Bool.{leb-true, eqb-true, le-leb, eq-eqb, and_parts}
use Rattle.plain_words.specs.declared.verdict.Verdict.{Verdict}
use Rattle.plain_words.specs.declared.verdict.Verdict.TheVariants as verdicts
use Rattle.plain_words.specs.Words.{name_fault, token_fault, zone_name_fault, is_name_byte, is_token_byte, is_bad_zone_place, first_below}
use Rattle.std.specs.Prelude.{position, not}
use Rattle.plain_words.specs.declared.limits.TheConstants.{LONGEST_NAME, LONGEST_TOKEN, LONGEST_ZONE_NAME, LONGEST_INPUT, LONGEST_ARN, LONGEST_EXPRESSION, LONGEST_DESCRIPTION}
use Rattle.expressions.specs.declared.expression.Expr.{Expr}
use Rattle.expressions.specs.Spelling.{Spells}
use Rattle.expressions.specs.ExpressionFaults.{fault}
use Rattle.expr_grammar.proofs.Laws.{spelled_no_fault}
use Rattle.plain_words.specs.Moments.{last_moment}
use Rattle.sched_plain.specs.declared.outcome.Reason.{Reason}
use Rattle.sched_plain.specs.declared.outcome.Reason.TheVariants as reasons
use Rattle.sched_plain.specs.declared.schedule.Schedule.{Schedule}
use Rattle.step_codec.specs.Parts.{HasRoom}
use Rattle.sched_plain.specs.Validity.{IsContent, IsText, IsInput, IfThere, IsStatus, IsToken, character_count}
use Rattle.step_codec.specs.Rules as rule
use Rattle.step_codec.specs.Payload.{flag, verdict_code, reason_code, or_empty, IsFilled}
use Rattle.step_codec.proofs.Fitting.{DateFits}
use Rattle.step_codec.proofs.Lengths.{utf8_length, word_short}

pub none_is : {A : Type 0} (o : Option A) → is_none o ≡ true → o ≡ None
none_is None e = refl
none_is (Some x) e = absurd cc

pub is_none_of : {A : Type 0} (o : Option A) → o ≡ None → is_none o ≡ true
is_none_of None e = refl
is_none_of (Some x) e = absurd cc

both : (a b : Bool) → a ≡ true → b ≡ true → (a && b) ≡ true
both true b e f = f
both false b e f = absurd cc

either : (a b : Bool) → (a || b) ≡ true → (a ≡ true) ⊎ (b ≡ true)
either true b e = inl refl
either false b e = inr e

second : (a b : Bool) → b ≡ true → (a || b) ≡ true
second true b e = refl
second false b e = e

-- ---- words

name_length : (text : List ℕ) → name_fault text ≡ None → length text ≤ 64
name_length text e = word_short LONGEST_NAME (position (λ b. not (is_name_byte b)) text) text e

token_length : (text : List ℕ) → token_fault text ≡ None → length text ≤ 64
token_length text e = word_short LONGEST_TOKEN (position (λ b. not (is_token_byte b)) text) text e

zone_length : (text : List ℕ) → zone_name_fault text ≡ None → length text ≤ 50
zone_length text e = word_short LONGEST_ZONE_NAME (first_below (is_bad_zone_place text) (length text)) text e

pub name_fits : (text : List ℕ) → name_fault text ≡ None → (rule.is_name text ≡ true) × (length text < 2 ^ 8)
name_fits text e = let short = name_length text e in (is_none_of (name_fault text) e, omega arith)

pub zone_name_fits : (text : List ℕ) → zone_name_fault text ≡ None → (rule.is_zone_name text ≡ true) × (length text < 2 ^ 8)
zone_name_fits text e = let short = zone_length text e in (is_none_of (zone_name_fault text) e, omega arith)

pub token_fits : (token : Option (List ℕ)) → IsToken token → (rule.is_token_or_none (or_empty token) ≡ true) × (length (or_empty token) < 2 ^ 8)
token_fits None valid = (refl, lit< tt)
token_fits (Some text) valid =
    let short = token_length text valid in
    (second (rule.is_empty text) (is_none (token_fault text)) (is_none_of (token_fault text) valid), omega arith)

not_empty : (text : List ℕ) → 1 ≤ length text → rule.is_empty text ≡ true → ⊥
not_empty text filled e = let none : length text ≡ 0 = eqb-true (length text) 0 e in omega arith

-- what is there and passes, passes as what must be there
there : (text : List ℕ) (passes : Bool) → 1 ≤ length text → (rule.is_empty text || passes) ≡ true → passes ≡ true
there text passes filled e = elim (either (rule.is_empty text) passes e) [ inl none ↦ absurd (not_empty text filled none) | inr holds ↦ holds ]

pub token_valid : (token : Option (List ℕ)) → IsFilled token → rule.is_token_or_none (or_empty token) ≡ true → IsToken token
token_valid None filled e = tt
token_valid (Some text) filled e = none_is (token_fault text) (there text (is_none (token_fault text)) filled e)

-- ---- texts

pub text_passes : (least most : ℕ) (text : List ℕ) → IsText least most text → rule.is_text least most text ≡ true
text_passes least most text t =
    both (is_utf8 text && nat_le least (character_count text)) (nat_le (character_count text) most)
    (both (is_utf8 text) (nat_le least (character_count text)) t.utf8 (le-leb least (character_count text) t.long))
    (le-leb (character_count text) most t.short)

pub text_valid : (least most : ℕ) (text : List ℕ) → rule.is_text least most text ≡ true → IsText least most text
text_valid least most text e =
    let parts = and_parts (is_utf8 text && nat_le least (character_count text)) (nat_le (character_count text) most) e in
    let first = and_parts (is_utf8 text) (nat_le least (character_count text)) parts.0 in
    record { utf8 = first.0; long = leb-true least (character_count text) first.1; short = leb-true (character_count text) most parts.1 }

pub text_length : (least most : ℕ) (text : List ℕ) → IsText least most text → length text ≤ 4 * most
text_length least most text t = let bytes = utf8_length text t.utf8 in let short = t.short in omega arith

pub expression_passes : (text : List ℕ) (e : Expr) → IsText 1 LONGEST_EXPRESSION text → Spells text e → rule.is_expression text ≡ true
expression_passes text e t spells =
    both (rule.is_text 1 LONGEST_EXPRESSION text) (is_none (fault text)) (text_passes 1 LONGEST_EXPRESSION text t) (is_none_of (fault text) (spelled_no_fault text e spells))

pub expression_text : (text : List ℕ) → rule.is_expression text ≡ true → IsText 1 LONGEST_EXPRESSION text
expression_text text e = text_valid 1 LONGEST_EXPRESSION text (and_parts (rule.is_text 1 LONGEST_EXPRESSION text) (is_none (fault text)) e).0

pub queue_fits : (queue : Option (List ℕ)) → IfThere (IsText 1 LONGEST_ARN) queue → (rule.is_arn_or_none (or_empty queue) ≡ true) × (length (or_empty queue) ≤ 6400)
queue_fits None valid = (refl, lit≤ tt)
queue_fits (Some text) valid =
    let long = text_length 1 LONGEST_ARN text valid in
    (second (rule.is_empty text) (rule.is_arn text) (text_passes 1 LONGEST_ARN text valid), omega arith)

pub queue_valid : (queue : Option (List ℕ)) → IsFilled queue → rule.is_arn_or_none (or_empty queue) ≡ true → IfThere (IsText 1 LONGEST_ARN) queue
queue_valid None filled e = tt
queue_valid (Some text) filled e = text_valid 1 LONGEST_ARN text (there text (rule.is_arn text) filled e)

pub input_fits : (input : Option (List ℕ)) → IfThere IsInput input → (rule.is_input_or_none (or_empty input) ≡ true) × (length (or_empty input) ≤ 65536)
input_fits None valid = (refl, lit≤ tt)
input_fits (Some text) valid =
    (second (rule.is_empty text) (is_utf8 text && nat_le (length text) LONGEST_INPUT) (both (is_utf8 text) (nat_le (length text) LONGEST_INPUT) valid.utf8 (le-leb (length text) LONGEST_INPUT valid.short)), valid.short)

pub input_valid : (input : Option (List ℕ)) → IsFilled input → rule.is_input_or_none (or_empty input) ≡ true → IfThere IsInput input
input_valid None filled e = tt
input_valid (Some text) filled e =
    let parts = and_parts (is_utf8 text) (nat_le (length text) LONGEST_INPUT) (there text (is_utf8 text && nat_le (length text) LONGEST_INPUT) filled e) in
    record { utf8 = parts.0; long = filled; short = leb-true (length text) LONGEST_INPUT parts.1 }

-- ---- numbers

pub date_fits : (date : Option ℕ) → IfThere (λ i. i ≤ last_moment) date → DateFits rule.is_moment date
date_fits None valid = tt
date_fits (Some n) valid = (le-leb n last_moment valid, omega arith)

pub date_valid : (date : Option ℕ) → DateFits rule.is_moment date → IfThere (λ i. i ≤ last_moment) date
date_valid None fits = tt
date_valid (Some n) fits = leb-true n last_moment fits.0

pub flag_fits : (b : Bool) → (rule.is_flag (flag b) ≡ true) × (flag b < 2 ^ 8)
flag_fits true = (refl, lit< tt)
flag_fits false = (refl, lit< tt)

pub verdict_fits : (v : Verdict) → (rule.is_code 3 (verdict_code v) ≡ true) × (verdict_code v < 2 ^ 8)
verdict_fits verdicts.Done = (refl, lit< tt)
verdict_fits verdicts.Retry = (refl, lit< tt)
verdict_fits verdicts.Final = (refl, lit< tt)

pub reason_fits : (r : Reason) → (rule.is_code 2 (reason_code r) ≡ true) × (reason_code r < 2 ^ 8)
reason_fits reasons.Attempts = (refl, lit< tt)
reason_fits reasons.Age = (refl, lit< tt)

pub status_passes : (n : ℕ) → IsStatus n → rule.is_status n ≡ true
status_passes n (inl none) = rw (eq-eqb n 0 none) refl
status_passes n (inr within) = second (n == 0) (nat_le 100 n && nat_le n 999) (both (nat_le 100 n) (nat_le n 999) (le-leb 100 n within.0) (le-leb n 999 within.1))

pub status_small : (n : ℕ) → IsStatus n → n < 2 ^ 16
status_small n (inl none) = omega arith
status_small n (inr within) = omega arith

pub status_valid : (n : ℕ) → rule.is_status n ≡ true → IsStatus n
status_valid n e = elim (either (n == 0) (nat_le 100 n && nat_le n 999) e) [
  | inl none ↦ inl (eqb-true n 0 none)
  | inr within ↦ let parts = and_parts (nat_le 100 n) (nat_le n 999) within in inr (leb-true 100 n parts.0, leb-true n 999 parts.1)
]

pub within : (least most n : ℕ) → least ≤ n → n ≤ most → (nat_le least n && nat_le n most) ≡ true
within least most n low high = both (nat_le least n) (nat_le n most) (le-leb least n low) (le-leb n most high)

-- how many bytes the texts of a valid content have
pub content_room : (c : Schedule) → IsContent c → HasRoom c
content_room c v = record {
  description = text_length 0 LONGEST_DESCRIPTION c.description v.description;
  text = text_length 1 LONGEST_EXPRESSION c.text v.text;
  zone = zone_length c.zone v.zone;
  target = text_length 1 LONGEST_ARN c.target v.target;
  role = text_length 1 LONGEST_ARN c.role v.role;
  queue = (queue_fits c.queue v.queue).1;
  input = (input_fits c.input v.input).1;
}
