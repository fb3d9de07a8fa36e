-- What the six fields give together: the sets that their words spell, or the fault of the two day fields.
use Rattle.std.proofs.Common.{◌≡◌, ℕ, Bool, true, false, List, [], ◌∷◌, refl, sym, ap, ◌∙◌, subst, cond, None, lit<, lit≤}
use Rattle.std.specs.Prelude.{codes, ◌&&◌, ◌||◌}
use Rattle.expressions.specs.declared.expression.CronSets.{CronSets}
use Rattle.expressions.specs.declared.expression.DayRule.{DayRule}
use Rattle.plain_words.specs.Lists.{head}
use Rattle.expressions.specs.declared.expression.Expr.TheVariants as exprs
use Rattle.expressions.specs.Pieces.{has_bare_ends, placed_words, same}
use Rattle.expressions.specs.CronItems as cron
use Rattle.expressions.specs.CronItems.{row, set_of, years_of}
use Rattle.expressions.specs.Spelling.{Spells, give_no_rule, month_rule, week_rule, IsDayRule}
use Rattle.expressions.specs.ExpressionFaults.{days_fault}
use Rattle.expr_grammar.specs.declared.cron.AllItems.{AllItems}
use Rattle.expr_grammar.specs.declared.cron.Fields.{Fields}
use Rattle.expr_grammar.specs.declared.items.Items.{Items}
use Rattle.expr_grammar.specs.Cron.{AllRead, WordsSpell, first_of, month_rule_by, opens_no_rule, rule_by, rules_fault, sets_by, week_rule_by, words_of}
use Rattle.expr_grammar.specs.Items.{IsRead}
use Rattle.expr_grammar.specs.WordsLeft.{piece_of}
use Rattle.expr_grammar.specs.Answers.{enclosed}
use Rattle.expr_grammar.proofs.RateLaws.{texts-placed}
use Rattle.expr_grammar.proofs.QuestionLaws.{question_in_month, question_in_week, question_is}
use Rattle.expr_grammar.proofs.SetLaws.{kept_set}

opens_head : (all : List cron.Item) → opens_no_rule (head all) ≡ give_no_rule all
opens_head [] = refl
opens_head (cron.no_rule ∷ all) = refl
opens_head (cron.values from to by ∷ all) = refl
opens_head (cron.last_day ∷ all) = refl
opens_head (cron.saturday ∷ all) = refl
opens_head (cron.near_weekday n ∷ all) = refl
opens_head (cron.last_of n ∷ all) = refl
opens_head (cron.nth_of n k ∷ all) = refl

month_head : (all : List cron.Item) → month_rule_by (head all) (set_of cron.day_of_month all) ≡ month_rule all
month_head [] = refl
month_head (cron.no_rule ∷ all) = refl
month_head (cron.values from to by ∷ all) = refl
month_head (cron.last_day ∷ all) = refl
month_head (cron.saturday ∷ all) = refl
month_head (cron.near_weekday n ∷ all) = refl
month_head (cron.last_of n ∷ all) = refl
month_head (cron.nth_of n k ∷ all) = refl

week_head : (all : List cron.Item) → week_rule_by (head all) (set_of cron.day_of_week all) ≡ week_rule all
week_head [] = refl
week_head (cron.no_rule ∷ all) = refl
week_head (cron.values from to by ∷ all) = refl
week_head (cron.last_day ∷ all) = refl
week_head (cron.saturday ∷ all) = refl
week_head (cron.near_weekday n ∷ all) = refl
week_head (cron.last_of n ∷ all) = refl
week_head (cron.nth_of n k ∷ all) = refl

-- the first item of a day field says whether it is `?`
month_question : (word : List ℕ) (kept : Items) → IsRead cron.day_of_month word kept → opens_no_rule (first_of kept) ≡ same word (codes "?")
month_question word kept read =
    ap opens_no_rule read.summary.first ∙ opens_head read.all ∙ sym (question_is cron.day_of_month word read.all question_in_month read.spelled)

week_question : (word : List ℕ) (kept : Items) → IsRead cron.day_of_week word kept → opens_no_rule (first_of kept) ≡ same word (codes "?")
week_question word kept read =
    ap opens_no_rule read.summary.first ∙ opens_head read.all ∙ sym (question_is cron.day_of_week word read.all question_in_week read.spelled)

-- the fault of the two day fields
pub days_fault_is : (fields : Fields) (all : AllItems) → AllRead fields all →
    rules_fault (opens_no_rule (first_of all.days)) (opens_no_rule (first_of all.week)) fields.week.word.at
    ≡ days_fault (piece_of fields.days.word) (piece_of fields.week.word)
days_fault_is fields all read =
    ap (λ d. rules_fault d (opens_no_rule (first_of all.week)) fields.week.word.at) (month_question fields.days.word.text.now all.days read.days)
    ∙ ap (λ w. rules_fault (same fields.days.word.text.now (codes "?")) w fields.week.word.at) (week_question fields.week.word.text.now all.week read.week)

month_rule_is : (word : List ℕ) (kept : Items) (read : IsRead cron.day_of_month word kept) → month_rule_by (first_of kept) kept.low ≡ month_rule read.all
month_rule_is word kept read =
    let set = kept_set cron.day_of_month word kept read refl (lit≤ tt) (lit< tt) in
    ap (λ f. month_rule_by f kept.low) read.summary.first ∙ ap (month_rule_by (head read.all)) set.is ∙ month_head read.all

week_rule_is : (word : List ℕ) (kept : Items) (read : IsRead cron.day_of_week word kept) → week_rule_by (first_of kept) kept.low ≡ week_rule read.all
week_rule_is word kept read =
    let set = kept_set cron.day_of_week word kept read refl (lit≤ tt) (lit< tt) in
    ap (λ f. week_rule_by f kept.low) read.summary.first ∙ ap (week_rule_by (head read.all)) set.is ∙ week_head read.all

rule_parts : (d w : Bool) (place : ℕ) → rules_fault d w place ≡ None → ((d && w) ≡ false) × ((d || w) ≡ true)
rule_parts true true place none = cc
rule_parts true false place none = (refl, refl)
rule_parts false true place none = (refl, refl)
rule_parts false false place none = cc

-- the day rule of what is kept is that of the items
pub day_rule_is : (fields : Fields) (all : AllItems) (read : AllRead fields all) (rule : DayRule) →
    rules_fault (opens_no_rule (first_of all.days)) (opens_no_rule (first_of all.week)) fields.week.word.at ≡ None →
    rule ≡ rule_by all.days all.week → IsDayRule read.days.all read.week.all rule
day_rule_is fields all read rule none is =
    let d : opens_no_rule (first_of all.days) ≡ give_no_rule read.days.all = ap opens_no_rule read.days.summary.first ∙ opens_head read.days.all in
    let w : opens_no_rule (first_of all.week) ≡ give_no_rule read.week.all = ap opens_no_rule read.week.summary.first ∙ opens_head read.week.all in
    let parts = rule_parts (opens_no_rule (first_of all.days)) (opens_no_rule (first_of all.week)) fields.week.word.at none in (
      ap (λ b. b && give_no_rule read.week.all) (sym d) ∙ ap (λ b. opens_no_rule (first_of all.days) && b) (sym w) ∙ parts.0,
      ap (λ b. b || give_no_rule read.week.all) (sym d) ∙ ap (λ b. opens_no_rule (first_of all.days) || b) (sym w) ∙ parts.1,
      is ∙ ap (λ b. cond b (month_rule_by (first_of all.days) all.days.low) (week_rule_by (first_of all.week) all.week.low)) w
          ∙ ap (λ r. cond (give_no_rule read.week.all) r (week_rule_by (first_of all.week) all.week.low)) (month_rule_is fields.days.word.text.now all.days read.days)
          ∙ ap (λ r. cond (give_no_rule read.week.all) (month_rule read.days.all) r) (week_rule_is fields.week.word.text.now all.week read.week),
    )

-- the words spell the sets of what is kept
pub words_spell : (fields : Fields) (all : AllItems) (read : AllRead fields all) (rule : DayRule) → IsDayRule read.days.all read.week.all rule →
    WordsSpell (words_of fields) (sets_by all rule)
words_spell fields all read rule days =
    let m = kept_set cron.minutes fields.minutes.word.text.now all.minutes read.minutes refl (lit≤ tt) (lit< tt) in
    let h = kept_set cron.hours fields.hours.word.text.now all.hours read.hours refl (lit≤ tt) (lit< tt) in
    let o = kept_set cron.month fields.months.word.text.now all.months read.months refl (lit≤ tt) (lit< tt) in
    record {
      fields = record {
        minutes = read.minutes.all;
        hours = read.hours.all;
        days = read.days.all;
        months = read.months.all;
        week = read.week.all;
        years = read.years.all;
      };
      spelled = (read.minutes.spelled, read.hours.spelled, read.days.spelled, read.months.spelled, read.week.spelled, read.years.spelled);
      days = days;
      gathered = λ t. record {
        minutes = m.is t;
        hours = h.is t;
        days = rule;
        months = o.is t;
        years_low = read.years.summary.low t;
        years_high = read.years.summary.high t;
      };
    }

-- the sets, or the fault of the day fields
pub cron_read : (fields : Fields) (all : AllItems) (rule : DayRule) → AllRead fields all →
    (rules_fault (opens_no_rule (first_of all.days)) (opens_no_rule (first_of all.week)) fields.week.word.at ≡ None) × (rule ≡ rule_by all.days all.week) →
    (days_fault (piece_of fields.days.word) (piece_of fields.week.word) ≡ None) × WordsSpell (words_of fields) (sets_by all rule)
cron_read fields all rule read found =
    (sym (days_fault_is fields all read) ∙ found.0, words_spell fields all read rule (day_rule_is fields all read rule found.0 found.1))

-- words that spell sets, enclosed, spell the cron
pub cron_spelled : (inner : List ℕ) (sets : CronSets) → has_bare_ends inner ≡ true → WordsSpell (placed_words 5 inner) sets →
    Spells (enclosed (codes "cron(") inner) (exprs.Cron sets)
cron_spelled inner sets bare words = record {
  inner = inner;
  encloses = record { whole = refl; bare = bare };
  fields = words.fields;
  spelled = rw texts-placed at words.spelled;
  days = words.days;
  gathered = words.gathered;
}

pub cron_answer : (fields : Fields) (all : AllItems) (rule : DayRule) (sets : CronSets) → AllRead fields all →
    (rules_fault (opens_no_rule (first_of all.days)) (opens_no_rule (first_of all.week)) fields.week.word.at ≡ None) × (rule ≡ rule_by all.days all.week) →
    sets ≡ sets_by all rule →
    (days_fault (piece_of fields.days.word) (piece_of fields.week.word) ≡ None) × WordsSpell (words_of fields) sets
cron_answer fields all rule sets read found is =
    let answer = cron_read fields all rule read found in
    let P : CronSets → Type 0 = WordsSpell (words_of fields) in
    (answer.0, subst P (sym is) answer.1)
