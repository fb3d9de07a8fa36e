-- A content that the table of fields gives is valid, and its target is an address.
use Rattle.std.proofs.Common.{◌≡◌, ◌≤◌, ℕ, nat_le, Bool, true, false, ◌&&◌, is_none, is_some, IsSome, List, [], Option, Some, None, Result, Ok, Err, IfOk, option_map, refl, sym, ap, ◌∙◌, subst, arith, lit≤}
use Rattle.std.specs.Prelude.{option_and_then, length, if◌then◌else◌, codes}
use Rattle.std.proofs.lemmas.Bool.{and_parts, leb-true}
use Rattle.std.specs.Str.{is_utf8}
use Rattle.std.proofs.lemmas.Str.{IsUtf8-nil, is_utf8-from_IsUtf8}
use Rattle.serde_json.specs.Data.{Data, null}
use Rattle.serde_json.specs.Find.{as_u64, as_number}
use Rattle.plain_words.specs.declared.limits.TheConstants.{LAST_MOMENT, LONGEST_DESCRIPTION, LONGEST_EXPRESSION, LONGEST_ARN, LONGEST_WINDOW, MOST_RETRIES, LEAST_AGE, LONGEST_AGE}
use Rattle.plain_words.specs.declared.word.NameFault.{NameFault}
use Rattle.plain_words.specs.Words.{zone_name_fault}
use Rattle.expressions.specs.declared.expression.Expr.{Expr}
use Rattle.expressions.specs.Spelling.{Spells}
use Rattle.expr_grammar.specs.Spelled.{spelled}
use Rattle.sched_plain.specs.declared.schedule.Policy.{Policy}
use Rattle.sched_plain.specs.declared.schedule.Schedule.{Schedule}
use Rattle.sched_plain.specs.Validity.{IfThere, IsInput, IsText, character_count}
use Rattle.sched_calls.specs.declared.reply.Refusal.{Refusal}
use Rattle.target_link.specs.declared.address.Spot.{Spot}
use Rattle.target_link.specs.Address.{target_spot}
use Rattle.request_fields.specs.declared.timing.Timing.{Timing}
use Rattle.request_fields.specs.declared.errand.Errand.{Errand}
use Rattle.request_fields.specs.declared.fault.DecodeFault.{DecodeFault}
use Rattle.request_fields.specs.Refusals.{Reads}
use Rattle.request_fields.specs.Contents.{content_of, content_with, earliest_finish, errand_of, limits_of, policy_of, queue_of, timing_of, window_of}
use Rattle.request_fields.specs.Rows.{an_object, in_text, whole, required, defaulted, optional}
use Rattle.request_fields.specs.Validity.{IsSound}
use Rattle.request_fields.specs.Words.{kept, has_characters, text_word, zone_word, expression_word, target_word, is_target, queue_word, is_queue_arn, input_word, is_input, one_of}
use Rattle.request_fields.proofs.Chains.{giving_ok, after_required, after_default, after_optional, required_holds, optional_holds, text_holds}

-- ---- rules

ok_same : {A : Type 0} (x y : A) → ◌≡◌ {A = Result A Refusal} (Ok x) (Ok y) → x ≡ y
ok_same x y e = cc

kept_by : {A : Type 0} (test : A → Bool) (y x : A) (b : Bool) → test y ≡ b → (if b then Some y else None) ≡ Some x → (Some y ≡ Some x) × (test x ≡ true)
kept_by test y x true is e = let same : y ≡ x = cc in (e, ap test (sym same) ∙ is)
kept_by test y x false is e = absurd (let clash : ⊥ = cc in clash)

kept_is : {A : Type 0} (test : A → Bool) (o : Option A) (x : A) → kept test o ≡ Some x → (o ≡ Some x) × (test x ≡ true)
kept_is test None x e = absurd (let clash : ⊥ = cc in clash)
kept_is test (Some y) x e = kept_by test y x (test y) refl e

none_is : (o : Option NameFault) → is_none o ≡ true → o ≡ None
none_is None e = refl
none_is (Some f) e = absurd (let clash : ⊥ = cc in clash)

is_text : (least most : ℕ) (text : List ℕ) → has_characters least most text ≡ true → IsText least most text
is_text least most text e =
    let parts = and_parts (is_utf8 text) _ e in
    let bounds = and_parts (nat_le least (character_count text)) _ parts.1 in
    record { utf8 = parts.0; long = leb-true _ _ bounds.0; short = leb-true _ _ bounds.1 }

text_is : (least most : ℕ) (s x : List ℕ) → text_word least most s ≡ Some x → IsText least most x
text_is least most s x e = is_text least most x (kept_is (has_characters least most) (Some s) x e).1

zone_is : (s x : List ℕ) → zone_word s ≡ Some x → zone_name_fault x ≡ None
zone_is s x e = none_is (zone_name_fault x) (kept_is (λ word. is_none (zone_name_fault word)) (Some s) x e).1

by_spelled : (w : List ℕ) (x : List ℕ × Expr) → IsText 1 LONGEST_EXPRESSION w → (o : Option Expr) →
    option_map (λ expression. (w, expression)) o ≡ Some x → IsText 1 LONGEST_EXPRESSION x.0
by_spelled w x is None e = absurd (let clash : ⊥ = cc in clash)
by_spelled w x is (Some expression) e =
    let same : (w, expression) ≡ x = cc in subst (λ (p : List ℕ × Expr). IsText 1 LONGEST_EXPRESSION p.0) same is

by_word : (s : List ℕ) (x : List ℕ × Expr) (o : Option (List ℕ)) → text_word 1 LONGEST_EXPRESSION s ≡ o →
    option_and_then (λ word. option_map (λ expression. (word, expression)) (spelled word)) o ≡ Some x → IsText 1 LONGEST_EXPRESSION x.0
by_word s x None is e = absurd (let clash : ⊥ = cc in clash)
by_word s x (Some w) is e = by_spelled w x (text_is 1 LONGEST_EXPRESSION s w is) (spelled w) e

expression_is : (s : List ℕ) (x : List ℕ × Expr) → expression_word s ≡ Some x → IsText 1 LONGEST_EXPRESSION x.0
expression_is s x e = by_word s x (text_word 1 LONGEST_EXPRESSION s) refl e

-- an arn of a target
record IsTargetArn (arn : List ℕ) : Type 0 where
  text : IsText 1 LONGEST_ARN arn
  address : IsSome (target_spot arn)

is_there : (o : Option Spot) → is_some o ≡ true → IsSome o
is_there None e = absurd (let clash : ⊥ = cc in clash)
is_there (Some spot) e = refl

target_is : (s x : List ℕ) → target_word s ≡ Some x → IsTargetArn x
target_is s x e =
    let parts = kept_is is_target (text_word 1 LONGEST_ARN s) x e in
    record { text = text_is 1 LONGEST_ARN s x parts.0; address = is_there (target_spot x) parts.1 }

queue_is : (s x : List ℕ) → queue_word s ≡ Some x → IsText 1 LONGEST_ARN x
queue_is s x e = text_is 1 LONGEST_ARN s x (kept_is is_queue_arn (text_word 1 LONGEST_ARN s) x e).0

input_is : (s x : List ℕ) → input_word s ≡ Some x → IsInput x
input_is s x e =
    let parts = and_parts (is_utf8 x) _ (kept_is is_input (Some s) x e).1 in
    let bounds = and_parts (nat_le 1 (length x)) _ parts.1 in
    record { utf8 = parts.0; long = leb-true _ _ bounds.0; short = leb-true _ _ bounds.1 }

-- a number from one to another
record IsBetween (least most n : ℕ) : Type 0 where
  low : least ≤ n
  high : n ≤ most

whole_is : (least most : ℕ) (d : Data) (n : ℕ) → whole least most d ≡ Some n → IsBetween least most n
whole_is least most d n e =
    let bounds = and_parts (nat_le least n) _ (kept_is (λ (n : ℕ). nat_le least n && nat_le n most) (option_and_then as_u64 (as_number d)) n e).1 in
    record { low = leb-true _ _ bounds.0; high = leb-true _ _ bounds.1 }

-- ---- the parts

-- the zone that is read where none is named
utc_is : zone_name_fault (codes "UTC") ≡ None
utc_is = refl

-- the empty text is UTF-8
utf8_empty : is_utf8 [] ≡ true
utf8_empty = is_utf8-from_IsUtf8 [] IsUtf8-nil

-- the timing keeps its limits
record IsTiming (timing : Timing) : Type 0 where
  text : IsText 1 LONGEST_EXPRESSION timing.text
  zone : zone_name_fault timing.zone ≡ None
  start : IfThere (λ n. n ≤ LAST_MOMENT) timing.start
  finish : IfThere (λ n. n ≤ LAST_MOMENT) timing.finish
  window : timing.window ≤ LONGEST_WINDOW

window_by : (n : ℕ) (off : Bool) (minutes : Result ℕ Refusal) → ((m : ℕ) → minutes ≡ Ok m → m ≤ LONGEST_WINDOW) → (if off then Ok 0 else minutes) ≡ Ok n → n ≤ LONGEST_WINDOW
window_by n true minutes within e = let same : 0 ≡ n = cc in omega arith
window_by n false minutes within e = within n e

minutes_sound : (window : Data) (m : ℕ) → required (codes "FlexibleTimeWindow.") (codes "MaximumWindowInMinutes") (whole 1 LONGEST_WINDOW) window ≡ Ok m → m ≤ LONGEST_WINDOW
minutes_sound window m is =
    (required_holds (IsBetween 1 LONGEST_WINDOW) (whole 1 LONGEST_WINDOW) (whole_is 1 LONGEST_WINDOW) (codes "FlexibleTimeWindow.") (codes "MaximumWindowInMinutes") window m is).high

window_sound : (window : Data) (n : ℕ) → window_of window ≡ Ok n → n ≤ LONGEST_WINDOW
unfolding window_of
window_sound window n e =
    let mode = giving_ok (required (codes "FlexibleTimeWindow.") (codes "Mode") (in_text (one_of (codes "OFF") (codes "FLEXIBLE"))) window) _ n e in
    window_by n mode.0 (required (codes "FlexibleTimeWindow.") (codes "MaximumWindowInMinutes") (whole 1 LONGEST_WINDOW) window)
    (minutes_sound window) mode.2

timing_sound : (body : Data) (timing : Timing) → timing_of body ≡ Ok timing → IsTiming timing
unfolding timing_of
timing_sound body timing e =
    let a = after_required (λ (x : List ℕ × Expr). IsText 1 LONGEST_EXPRESSION x.0) (in_text expression_word)
    (text_holds (λ (x : List ℕ × Expr). IsText 1 LONGEST_EXPRESSION x.0) expression_word expression_is) [] (codes "ScheduleExpression") body _ timing e in
    let b = after_default (λ (x : List ℕ). zone_name_fault x ≡ None) (in_text zone_word)
    (text_holds (λ (x : List ℕ). zone_name_fault x ≡ None) zone_word zone_is) (codes "UTC") utc_is [] (codes "ScheduleExpressionTimezone") body _ timing a.2 in
    let c = after_optional (λ (n : ℕ). n ≤ LAST_MOMENT) (whole 0 LAST_MOMENT)
    (λ (v : Data) (n : ℕ) is. (whole_is 0 LAST_MOMENT v n is).high) [] (codes "StartDate") body _ timing b.2 in
    let d = after_optional (λ (n : ℕ). n ≤ LAST_MOMENT) (whole (earliest_finish a.0.1 c.0) LAST_MOMENT)
    (λ (v : Data) (n : ℕ) is. (whole_is (earliest_finish a.0.1 c.0) LAST_MOMENT v n is).high) [] (codes "EndDate") body _ timing c.2 in
    let f = giving_ok (defaulted [] (codes "State") (in_text (one_of (codes "ENABLED") (codes "DISABLED"))) true body) _ timing d.2 in
    let g = giving_ok (defaulted [] (codes "ActionAfterCompletion") (in_text (one_of (codes "DELETE") (codes "NONE"))) false body) _ timing f.2 in
    let h = giving_ok (required [] (codes "FlexibleTimeWindow") an_object body) _ timing g.2 in
    let i = giving_ok (window_of h.0) _ timing h.2 in
    let made : Timing = record { text = a.0.0; expr = a.0.1; zone = b.0; start = c.0; finish = d.0; enabled = f.0; delete_after = g.0; window = i.0 } in
    let same : made ≡ timing = ok_same made timing i.2 in
    subst IsTiming same (record { text = a.1; zone = b.1; start = c.1; finish = d.1; window = window_sound h.0 i.0 i.1 })

-- what is sent keeps its limits
record IsErrand (errand : Errand) : Type 0 where
  target : IsTargetArn errand.target
  role : IsText 1 LONGEST_ARN errand.role
  queue : IfThere (IsText 1 LONGEST_ARN) errand.queue
  input : IfThere IsInput errand.input
  retries : errand.policy.retries ≤ MOST_RETRIES
  age : IsBetween LEAST_AGE LONGEST_AGE errand.policy.age

queue_sound : (target : Data) (queue : Option (List ℕ)) → queue_of target ≡ Ok queue → IfThere (IsText 1 LONGEST_ARN) queue
unfolding queue_of
queue_sound target queue e =
    let config = giving_ok (defaulted (codes "Target.") (codes "DeadLetterConfig") an_object null target)
    (λ (d : Data). optional (codes "Target.DeadLetterConfig.") (codes "Arn") (in_text queue_word) d) queue e in
    optional_holds (IsText 1 LONGEST_ARN) (in_text queue_word) (text_holds (IsText 1 LONGEST_ARN) queue_word queue_is)
    (codes "Target.DeadLetterConfig.") (codes "Arn") config.0 queue config.2

-- the limits of a policy
record IsPolicy (policy : Policy) : Type 0 where
  retries : policy.retries ≤ MOST_RETRIES
  age : IsBetween LEAST_AGE LONGEST_AGE policy.age

limits_sound : (d : Data) (policy : Policy) → limits_of d ≡ Ok policy → IsPolicy policy
unfolding limits_of
limits_sound d policy e =
    let retries = after_default (IsBetween 0 MOST_RETRIES) (whole 0 MOST_RETRIES) (whole_is 0 MOST_RETRIES) MOST_RETRIES
    (record { low = lit≤ tt; high = lit≤ tt }) (codes "Target.RetryPolicy.") (codes "MaximumRetryAttempts") d _ policy e in
    let age = after_default (IsBetween LEAST_AGE LONGEST_AGE) (whole LEAST_AGE LONGEST_AGE) (whole_is LEAST_AGE LONGEST_AGE) LONGEST_AGE
    (record { low = lit≤ tt; high = lit≤ tt }) (codes "Target.RetryPolicy.") (codes "MaximumEventAgeInSeconds") d _ policy retries.2 in
    let made : Policy = record { retries = retries.0; age = age.0 } in
    let same : made ≡ policy = ok_same made policy age.2 in
    subst IsPolicy same (record { retries = retries.1.high; age = age.1 })

policy_sound : (target : Data) (policy : Policy) → policy_of target ≡ Ok policy → IsPolicy policy
unfolding policy_of
policy_sound target policy e =
    let found = giving_ok (defaulted (codes "Target.") (codes "RetryPolicy") an_object null target) limits_of policy e in
    limits_sound found.0 policy found.2

errand_sound : (body : Data) (errand : Errand) → errand_of body ≡ Ok errand → IsErrand errand
unfolding errand_of
errand_sound body errand e =
    let a = giving_ok (required [] (codes "Target") an_object body) _ errand e in
    let b = after_required IsTargetArn (in_text target_word) (text_holds IsTargetArn target_word target_is) (codes "Target.") (codes "Arn") a.0 _ errand a.2 in
    let c = after_required (IsText 1 LONGEST_ARN) (in_text (text_word 1 LONGEST_ARN))
    (text_holds (IsText 1 LONGEST_ARN) (text_word 1 LONGEST_ARN) (text_is 1 LONGEST_ARN)) (codes "Target.") (codes "RoleArn") a.0 _ errand b.2 in
    let d = giving_ok (queue_of a.0) _ errand c.2 in
    let f = after_optional IsInput (in_text input_word) (text_holds IsInput input_word input_is) (codes "Target.") (codes "Input") a.0 _ errand d.2 in
    let g = giving_ok (policy_of a.0) _ errand f.2 in
    let policy = policy_sound a.0 g.0 g.1 in
    let made : Errand = record { target = b.0; role = c.0; queue = d.0; input = f.0; policy = g.0 } in
    let same : made ≡ errand = ok_same made errand g.2 in
    subst IsErrand same (record {
      target = b.1;
      role = c.1;
      queue = queue_sound a.0 d.0 d.1;
      input = f.1;
      retries = policy.retries;
      age = policy.age;
    })

-- ---- the content

parts_sound : (description : List ℕ) (timing : Timing) (errand : Errand) → IsText 0 LONGEST_DESCRIPTION description → IsTiming timing → IsErrand errand →
    Spells timing.text timing.expr → IsSound (content_with description timing errand)
parts_sound description timing errand text t s spells = record {
  valid = record {
    description = text;
    text = t.text;
    expression = spells;
    zone = t.zone;
    start = t.start;
    finish = t.finish;
    window = t.window;
    retries = s.retries;
    least_age = s.age.low;
    longest_age = s.age.high;
    target = s.target.text;
    role = s.role;
    queue = s.queue;
    input = s.input;
  };
  address = s.target.address;
}

-- an empty text is no description
no_description : IsText 0 LONGEST_DESCRIPTION []
no_description = record { utf8 = utf8_empty; long = lit≤ tt; short = lit≤ tt }

pub content_sound : (body : Data) (content : Schedule) → content_of body ≡ Ok content → Spells content.text content.expr → IsSound content
unfolding content_of
content_sound body content e spells =
    let a = after_default (IsText 0 LONGEST_DESCRIPTION) (in_text (text_word 0 LONGEST_DESCRIPTION))
    (text_holds (IsText 0 LONGEST_DESCRIPTION) (text_word 0 LONGEST_DESCRIPTION) (text_is 0 LONGEST_DESCRIPTION)) [] no_description [] (codes "Description") body _ content e in
    let b = giving_ok (timing_of body) _ content a.2 in
    let c = giving_ok (errand_of body) _ content b.2 in
    let same : content_with a.0 b.0 c.0 ≡ content = ok_same (content_with a.0 b.0 c.0) content c.2 in
    let there : Spells b.0.text b.0.expr = subst (λ (x : Schedule). Spells x.text x.expr) (sym same) spells in
    subst IsSound same (parts_sound a.0 b.0 c.0 a.1 (timing_sound body b.0 b.1) (errand_sound body c.0 c.1) there)

-- so is what a reader of the table answers
pub read_sound : (body : Data) (r : Result Schedule DecodeFault) → Reads r (content_of body) → IfOk r (λ (content : Schedule). Spells content.text content.expr) → IfOk r IsSound
read_sound body (Ok content) is spells = content_sound body content is spells
read_sound body (Err fault) is spells = tt
