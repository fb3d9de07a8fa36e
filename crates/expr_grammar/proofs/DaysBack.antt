-- The two day fields that are printed of a day rule are read back as the rule.
use Rattle.std.proofs.Common.{◌≡◌, ℕ, ◌^◌, ◌<◌, ◌≤◌, Bool, true, false, cond, List, [], ◌∷◌, ◌++◌, length, refl, sym, ap, ◌∙◌, subst, arith, lit<, lit≤, length-append, Some}
use Rattle.std.specs.Prelude.{map, codes, decimal, nat_le, ◌==◌, ◌&&◌, ◌||◌}
use Rattle.std.proofs.lemmas.Bool.{leb-true, and_parts}
use Rattle.expressions.specs.declared.expression.DayRule.{DayRule}
use Rattle.expressions.specs.declared.expression.DayRule.TheVariants as rules
use Rattle.expressions.specs.Canonical.{days_text, week_text, set_text}
use Rattle.expressions.specs.Sets.{has_value}
use Rattle.expressions.specs.CronItems as cron
use Rattle.expressions.specs.CronItems.{is_in_range, is_value, row, set_of}
use Rattle.expressions.specs.Pieces.{cut, is_digit}
use Rattle.expressions.specs.Spelling.{AreRows, IsDayRule, SpellsField, give_no_rule, month_rule, week_rule}
use Rattle.expr_grammar.proofs.DayRows.{last_row_is, near_row_is, nth_row_is}
use Rattle.expr_grammar.proofs.DecimalLaws.{written}
use Rattle.expr_grammar.proofs.ItemKinds.{HasValue, first_in_field, saturday_has, some_item, values_have}
use Rattle.expr_grammar.proofs.LackLaws.{Lacks, cut_lacking, digits_lack, lacks_append}
use Rattle.expr_grammar.proofs.QuestionLaws.{question_in_month, question_in_week}
use Rattle.expr_grammar.proofs.RunLaws.{run_item}
use Rattle.expr_grammar.proofs.SetLaws.{AllInRange, rows_in_range}
use Rattle.expr_grammar.proofs.SetsBack.{FieldBack, field_back}

-- a text of a field that can stand among the words of a cron, and its items
pub record DayText (field : cron.Field) (text : List ℕ) (items : List cron.Item) : Type 0 where
  pub spelled : SpellsField field text items
  pub filled : 0 < length text
  pub lacks : Lacks 32 text

-- the day fields that are printed of the rule give the rule
pub record DaysBack (rule : DayRule) : Type 0 where
  pub days : List cron.Item
  pub week : List cron.Item
  pub day_text : DayText cron.day_of_month (days_text rule) days
  pub week_day_text : DayText cron.day_of_week (week_text rule) week
  pub is : IsDayRule days week rule

-- a text of one item
one_item : (field : cron.Field) (text : List ℕ) (item : cron.Item) → Lacks 44 text → Lacks 32 text → 0 < length text → row field text ≡ Some item →
    is_in_range field item ≡ true → DayText field text (item ∷ [])
one_item field text item commas spaces filled is in_range = record {
  spelled = record {
    rows = subst (λ parts. AreRows field parts (item ∷ [])) (sym (cut_lacking 44 text commas)) (record { is = is; in_range = in_range }, tt);
    together = refl;
  };
  filled = filled;
  lacks = spaces;
}

last_in_month : row cron.day_of_month (codes "L") ≡ Some cron.last_day
unfolding row
last_in_month = refl

no_days : DayText cron.day_of_month (codes "?") (cron.no_rule ∷ [])
no_days = one_item cron.day_of_month (codes "?") cron.no_rule (refl, tt) (refl, tt) (lit< tt) question_in_month refl

no_week : DayText cron.day_of_week (codes "?") (cron.no_rule ∷ [])
no_week = one_item cron.day_of_week (codes "?") cron.no_rule (refl, tt) (refl, tt) (lit< tt) question_in_week refl

last_day : DayText cron.day_of_month (codes "L") (cron.last_day ∷ [])
last_day = one_item cron.day_of_month (codes "L") cron.last_day (refl, tt) (refl, tt) (lit< tt) last_in_month refl

-- the bounds of a value
bounds : (field : cron.Field) (n : ℕ) → is_value field n ≡ true → (cron.least field ≤ n) × (n ≤ cron.greatest field)
bounds field n is =
    let parts = and_parts (nat_le (cron.least field) n) (nat_le n (cron.greatest field)) is in (leb-true _ _ parts.0, leb-true _ _ parts.1)

filled_behind : (n : ℕ) (text : List ℕ) → n < 2 ^ 64 → 0 < length (decimal n ++ text)
filled_behind n text small = let w = written n small in omega (arith, w.some, length-append (decimal n) text)

near_day : (n : ℕ) → is_value cron.day_of_month n ≡ true → DayText cron.day_of_month (decimal n ++ codes "W") (cron.near_weekday n ∷ [])
near_day n is =
    let b = bounds cron.day_of_month n is in
    let low : 1 ≤ n = b.0 in
    let high : n ≤ 31 = b.1 in
    let digits = (written n (omega arith)).digits in
    one_item cron.day_of_month (decimal n ++ codes "W") (cron.near_weekday n)
    (lacks_append 44 (decimal n) (codes "W") (digits_lack 44 (decimal n) refl digits) (refl, tt))
    (lacks_append 32 (decimal n) (codes "W") (digits_lack 32 (decimal n) refl digits) (refl, tt))
    (filled_behind n (codes "W") (omega arith)) (near_row_is n low high) is

last_of_day : (n : ℕ) → is_value cron.day_of_week n ≡ true → DayText cron.day_of_week (decimal n ++ codes "L") (cron.last_of n ∷ [])
last_of_day n is =
    let b = bounds cron.day_of_week n is in
    let low : 1 ≤ n = b.0 in
    let high : n ≤ 7 = b.1 in
    let digits = (written n (omega arith)).digits in
    one_item cron.day_of_week (decimal n ++ codes "L") (cron.last_of n)
    (lacks_append 44 (decimal n) (codes "L") (digits_lack 44 (decimal n) refl digits) (refl, tt))
    (lacks_append 32 (decimal n) (codes "L") (digits_lack 32 (decimal n) refl digits) (refl, tt))
    (filled_behind n (codes "L") (omega arith)) (last_row_is n low high) is

nth_lacks : (c n k : ℕ) → n ≤ 7 → k ≤ 5 → is_digit c ≡ false → (35 == c) ≡ false → Lacks c (decimal n ++ codes "#" ++ decimal k)
nth_lacks c n k high few bare apart =
    lacks_append c (decimal n ++ codes "#") (decimal k)
    (lacks_append c (decimal n) (codes "#") (digits_lack c (decimal n) bare (written n (omega arith)).digits) (apart, tt))
    (digits_lack c (decimal k) bare (written k (omega arith)).digits)

nth_day : (n k : ℕ) → is_in_range cron.day_of_week (cron.nth_of n k) ≡ true → DayText cron.day_of_week (decimal n ++ codes "#" ++ decimal k) (cron.nth_of n k ∷ [])
nth_day n k is =
    let parts = and_parts (is_value cron.day_of_week n && nat_le 1 k) (nat_le k 5) is in
    let inner = and_parts (is_value cron.day_of_week n) (nat_le 1 k) parts.0 in
    let b = bounds cron.day_of_week n inner.0 in
    let low : 1 ≤ n = b.0 in
    let high : n ≤ 7 = b.1 in
    let some : 1 ≤ k = leb-true _ _ inner.1 in
    let few : k ≤ 5 = leb-true _ _ parts.1 in
    one_item cron.day_of_week (decimal n ++ codes "#" ++ decimal k) (cron.nth_of n k)
    (nth_lacks 44 n k high few refl refl) (nth_lacks 32 n k high few refl refl)
    (omega (arith, length-append (decimal n ++ codes "#") (decimal k), filled_behind n (codes "#") (omega arith)))
    (nth_row_is n k low high some few) is

-- the printed values of a set of days
set_days : (field : cron.Field) (set : ℕ) (b : FieldBack field set) → DayText field (set_text field (has_value set)) (map run_item (b.back.first ∷ b.back.more))
set_days field set b = record { spelled = b.back.spelled; filled = b.back.filled; lacks = b.back.lacks }

of_month : (all : List cron.Item) → AllInRange cron.day_of_month all → HasValue cron.day_of_month all → DaysBack (rules.OfMonth (set_of cron.day_of_month all))
of_month all in_range value =
    let b = field_back cron.day_of_month (set_of cron.day_of_month all) all refl (lit≤ tt) in_range value in
    record {
      days = map run_item (b.back.first ∷ b.back.more);
      week = cron.no_rule ∷ [];
      day_text = set_days cron.day_of_month (set_of cron.day_of_month all) b;
      week_day_text = no_week;
      is = (refl, refl, ap rules.OfMonth b.same);
    }

of_week : (all : List cron.Item) → AllInRange cron.day_of_week all → HasValue cron.day_of_week all → DaysBack (rules.OfWeek (set_of cron.day_of_week all))
of_week all in_range value =
    let b = field_back cron.day_of_week (set_of cron.day_of_week all) all refl (lit≤ tt) in_range value in
    record {
      days = cron.no_rule ∷ [];
      week = map run_item (b.back.first ∷ b.back.more);
      day_text = no_days;
      week_day_text = set_days cron.day_of_week (set_of cron.day_of_week all) b;
      is = (refl, refl, ap rules.OfWeek b.same);
    }

-- the rule of items of day of month, printed and read back
month_back : (word : List ℕ) (all : List cron.Item) → AreRows cron.day_of_month (cut 44 word) all → AllInRange cron.day_of_month all → give_no_rule all ≡ false →
    DaysBack (month_rule all)
month_back word [] are in_range rule = absurd (some_item cron.day_of_month word are)
month_back word (cron.values from to by ∷ more) are in_range rule =
    of_month (cron.values from to by ∷ more) in_range (values_have cron.day_of_month from to by more in_range.0)
month_back word (cron.no_rule ∷ more) are in_range rule = cc
month_back word (cron.last_day ∷ more) are in_range rule = record {
  days = cron.last_day ∷ [];
  week = cron.no_rule ∷ [];
  day_text = last_day;
  week_day_text = no_week;
  is = (refl, refl, refl);
}
month_back word (cron.saturday ∷ more) are in_range rule = let never = first_in_field cron.day_of_month (cut 44 word) cron.saturday more are in cc
month_back word (cron.near_weekday n ∷ more) are in_range rule = record {
  days = cron.near_weekday n ∷ [];
  week = cron.no_rule ∷ [];
  day_text = near_day n in_range.0;
  week_day_text = no_week;
  is = (refl, refl, refl);
}
month_back word (cron.last_of n ∷ more) are in_range rule = let never = first_in_field cron.day_of_month (cut 44 word) (cron.last_of n) more are in cc
month_back word (cron.nth_of n k ∷ more) are in_range rule = let never = first_in_field cron.day_of_month (cut 44 word) (cron.nth_of n k) more are in cc

-- the rule of items of day of week, printed and read back
week_back : (word : List ℕ) (all : List cron.Item) → AreRows cron.day_of_week (cut 44 word) all → AllInRange cron.day_of_week all → give_no_rule all ≡ false →
    DaysBack (week_rule all)
week_back word [] are in_range rule = absurd (some_item cron.day_of_week word are)
week_back word (cron.values from to by ∷ more) are in_range rule =
    of_week (cron.values from to by ∷ more) in_range (values_have cron.day_of_week from to by more in_range.0)
week_back word (cron.no_rule ∷ more) are in_range rule = cc
week_back word (cron.last_day ∷ more) are in_range rule = let never = first_in_field cron.day_of_week (cut 44 word) cron.last_day more are in cc
week_back word (cron.saturday ∷ more) are in_range rule = of_week (cron.saturday ∷ more) in_range (saturday_has more)
week_back word (cron.near_weekday n ∷ more) are in_range rule = let never = first_in_field cron.day_of_week (cut 44 word) (cron.near_weekday n) more are in cc
week_back word (cron.last_of n ∷ more) are in_range rule = record {
  days = cron.no_rule ∷ [];
  week = cron.last_of n ∷ [];
  day_text = no_days;
  week_day_text = last_of_day n in_range.0;
  is = (refl, refl, refl);
}
week_back word (cron.nth_of n k ∷ more) are in_range rule = record {
  days = cron.no_rule ∷ [];
  week = cron.nth_of n k ∷ [];
  day_text = no_days;
  week_day_text = nth_day n k in_range.0;
  is = (refl, refl, refl);
}

-- the rule of two day fields, printed and read back
pub days_back : (days_word week_word : List ℕ) (days week : List cron.Item) (rule : DayRule) → SpellsField cron.day_of_month days_word days →
    SpellsField cron.day_of_week week_word week → IsDayRule days week rule → DaysBack rule
days_back days_word week_word days week rule sd sw is = by_rule (give_no_rule days) (give_no_rule week) refl refl is.0 is.1 is.2 where
  by_rule : (d w : Bool) → give_no_rule days ≡ d → give_no_rule week ≡ w → (give_no_rule days && give_no_rule week) ≡ false → (give_no_rule days || give_no_rule week) ≡ true →
      rule ≡ cond (give_no_rule week) (month_rule days) (week_rule week) → DaysBack rule
  by_rule true true ed ew apart some gives = absurd (let e : true ≡ false = sym (rw (ed, ew) refl) ∙ apart in cc)
  by_rule false false ed ew apart some gives = absurd (let e : false ≡ true = sym (rw (ed, ew) refl) ∙ some in cc)
  by_rule false true ed ew apart some gives =
      let e : rule ≡ month_rule days = gives ∙ ap (λ b. cond b (month_rule days) (week_rule week)) ew in
      subst DaysBack (sym e) (month_back days_word days sd.rows (rows_in_range cron.day_of_month _ days sd.rows) ed)
  by_rule true false ed ew apart some gives =
      let e : rule ≡ week_rule week = gives ∙ ap (λ b. cond b (month_rule days) (week_rule week)) ew in
      subst DaysBack (sym e) (week_back week_word week sw.rows (rows_in_range cron.day_of_week _ week sw.rows) ew)
