-- A text that spells an expression has no fault, and spells no other.
use Rattle.std.proofs.Common.{◌≡◌, ℕ, ◌+◌, Bool, true, false, List, [], ◌∷◌, length, refl, sym, ap, ◌∙◌, subst, arith, Option, Some, None, Result, Ok, Err}
use Rattle.std.proofs.lemmas.Bool.{not-true}
use Rattle.std.specs.Prelude.{codes, ◌&&◌, ◌||◌, not, slice_index, if◌then◌else◌, ◌↔◌, IfOk}
use Rattle.expressions.specs.declared.expression.Civil.{Civil}
use Rattle.expressions.specs.declared.expression.CronSets.{CronSets}
use Rattle.expressions.specs.declared.expression.DayRule.{DayRule}
use Rattle.expressions.specs.declared.expression.Expr.{Expr}
use Rattle.expressions.specs.declared.expression.Expr.TheVariants as exprs
use Rattle.expressions.specs.declared.expression.Unit.{Unit as RateUnit}
use Rattle.plain_words.specs.Lists.{first_some, when}
use Rattle.expressions.specs.Pieces.{Piece, cut, has_bare_ends, inside, placed, placed_words, same, words}
use Rattle.expressions.specs.CivilSeconds.{is_civil, at_text}
use Rattle.expressions.specs.CronItems as cron
use Rattle.expressions.specs.CronItems.{is_in_range, row}
use Rattle.expressions.specs.Spelling.{AreRateWords, AreRows, Fields, IsDayRule, IsValidExpression, SpellFields, SpellsCron, SpellsField, SpellsRate, Spells, give_no_rule, month_rule, sets_of, week_rule}
use Rattle.expressions.specs.ExpressionFaults.{Fault, at_fault, cron_fault, days_fault, fault, fault_at, fault_of_form, field_fault, item_faults, rate_fault, shape_fault, words_fault}
use Rattle.expr_grammar.specs.declared.fault.ExprFault.{ExprFault}
use Rattle.expr_grammar.specs.Answers.{Answers, enclosed, told}
use Rattle.expr_grammar.specs.Reading.{civil_of}
use Rattle.expr_grammar.specs.WordsLeft.{texts}
use Rattle.expr_grammar.proofs.AtLaws.{at_inner, at_no_fault, civil_back, real_parts}
use Rattle.expr_grammar.proofs.FieldLaws.{field_fault_is, mixed, together_is}
use Rattle.expr_grammar.proofs.InsideLaws.{inside-enclosed}
use Rattle.expr_grammar.proofs.QuestionLaws.{question_in_month, question_in_week, question_is}
use Rattle.expr_grammar.proofs.RateLaws.{rate_no_fault, rate_words_once, texts-placed}

-- rows have no fault
rows_no_fault : (field : cron.Field) (place : ℕ) (pieces : List (List ℕ)) (all : List cron.Item) → AreRows field pieces all →
    first_some (item_faults field (placed place pieces)) ≡ None
rows_no_fault field place [] [] are = refl
rows_no_fault field place [] (i ∷ is) are = absurd are
rows_no_fault field place (p ∷ ps) [] are = absurd are
rows_no_fault field place (p ∷ ps) (i ∷ is) are =
    rw (are.0.is, are.0.in_range) (rows_no_fault field (place + length p + 1) ps is are.1)

field_no_fault : (field : cron.Field) (piece : Piece) (all : List cron.Item) → SpellsField field piece.text all → field_fault field piece ≡ None
field_no_fault field piece all spelled =
    let mix : mixed all ≡ false = not-true (mixed all) (sym (together_is all) ∙ spelled.together) in
    field_fault_is field piece.place piece.text all (rows_no_fault field piece.place (cut 44 piece.text) all spelled.rows) spelled.rows ∙ (rw mix refl)

-- rows are the rows of one list of items
rows_once : (field : cron.Field) (pieces : List (List ℕ)) (all other : List cron.Item) → AreRows field pieces all → AreRows field pieces other → all ≡ other
rows_once field [] [] [] one two = refl
rows_once field [] [] (j ∷ js) one two = absurd two
rows_once field [] (i ∷ is) other one two = absurd one
rows_once field (p ∷ ps) [] other one two = absurd one
rows_once field (p ∷ ps) (i ∷ is) [] one two = absurd two
rows_once field (p ∷ ps) (i ∷ is) (j ∷ js) one two =
    let heads : Some i ≡ Some j = sym one.0.is ∙ two.0.is in
    let tails : is ≡ js = rows_once field ps is js one.1 two.1 in
    let head : i ≡ j = cc in
    λ t. head t ∷ tails t

-- no fault of the day fields, by the words
day_words : (days week : Bool) (place : ℕ) → (days && week) ≡ false → (days || week) ≡ true →
    first_some (when (not (days || week)) (fault_at 5 place) ∷ when (days && week) (fault_at 6 place) ∷ []) ≡ None
day_words days week place apart some = rw (some, apart) refl

days_no_fault : (days week : Piece) (d w : List cron.Item) (rule : DayRule) → SpellsField cron.day_of_month days.text d → SpellsField cron.day_of_week week.text w →
    IsDayRule d w rule → days_fault days week ≡ None
days_no_fault days week d w rule sd sw is =
    let qd = question_is cron.day_of_month days.text d question_in_month sd in
    let qw = question_is cron.day_of_week week.text w question_in_week sw in
    day_words (same days.text (codes "?")) (same week.text (codes "?")) week.place (rw (qd, qw) is.0) (rw (qd, qw) is.1)

none_list : (a b d e f g h : Option Fault) → a ≡ None → b ≡ None → d ≡ None → e ≡ None → f ≡ None → g ≡ None → h ≡ None →
    first_some (a ∷ b ∷ d ∷ e ∷ f ∷ g ∷ h ∷ []) ≡ None
none_list a b d e f g h pa pb pd pe pf pg ph = rw (pa, pb, pd, pe, pf, pg, ph) refl

cron_words_sound : (pieces : List Piece) (fields : Fields) (rule : DayRule) → SpellFields (texts pieces) fields → IsDayRule fields.days fields.week rule →
    cron_fault pieces ≡ None
cron_words_sound [] fields rule are is = absurd are
cron_words_sound (a ∷ []) fields rule are is = absurd are
cron_words_sound (a ∷ b ∷ []) fields rule are is = absurd are
cron_words_sound (a ∷ b ∷ d ∷ []) fields rule are is = absurd are
cron_words_sound (a ∷ b ∷ d ∷ e ∷ []) fields rule are is = absurd are
cron_words_sound (a ∷ b ∷ d ∷ e ∷ f ∷ []) fields rule are is = absurd are
cron_words_sound (a ∷ b ∷ d ∷ e ∷ f ∷ g ∷ []) fields rule are is =
    none_list _ _ _ _ _ _ _
    (field_no_fault cron.minutes a fields.minutes are.0) (field_no_fault cron.hours b fields.hours are.1)
    (field_no_fault cron.day_of_month d fields.days are.2) (field_no_fault cron.month e fields.months are.3)
    (field_no_fault cron.day_of_week f fields.week are.4) (field_no_fault cron.year g fields.years are.5)
    (days_no_fault d f fields.days fields.week rule are.2 are.4 is)
cron_words_sound (a ∷ b ∷ d ∷ e ∷ f ∷ g ∷ h ∷ more) fields rule are is = absurd are

cron_no_fault : (inner : List ℕ) (fields : Fields) (rule : DayRule) → has_bare_ends inner ≡ true → SpellFields (words inner) fields →
    IsDayRule fields.days fields.week rule → words_fault cron_fault 5 inner ≡ None
cron_no_fault inner fields rule bare are is =
    let placed_are : SpellFields (texts (placed_words 5 inner)) fields = rw (texts-placed 5 (cut 32 inner)) are in
    rw bare (cron_words_sound (placed_words 5 inner) fields rule placed_are is)

pub fault_of_at : (text inner : List ℕ) → text ≡ enclosed (codes "at(") inner → fault text ≡ at_fault inner
unfolding fault
fault_of_at text inner is =
    ap fault is ∙ ap (λ o. fault_of_form o (inside (codes "rate(") (enclosed (codes "at(") inner)) (inside (codes "cron(") (enclosed (codes "at(") inner)))
    (inside-enclosed (codes "at(") inner)

pub fault_of_rate : (text inner : List ℕ) → text ≡ enclosed (codes "rate(") inner → fault text ≡ words_fault rate_fault 5 inner
unfolding fault
fault_of_rate text inner is =
    ap fault is ∙ ap (λ o. fault_of_form None o (inside (codes "cron(") (enclosed (codes "rate(") inner))) (inside-enclosed (codes "rate(") inner)

pub fault_of_cron : (text inner : List ℕ) → text ≡ enclosed (codes "cron(") inner → fault text ≡ words_fault cron_fault 5 inner
unfolding fault
fault_of_cron text inner is =
    ap fault is ∙ ap (λ o. fault_of_form None None o) (inside-enclosed (codes "cron(") inner)

-- what spells an expression has no fault
pub spelled_no_fault : (text : List ℕ) (e : Expr) → Spells text e → fault text ≡ None
spelled_no_fault text (exprs.At c) s = fault_of_at text (at_inner c) s.1 ∙ at_no_fault c s.0
spelled_no_fault text (exprs.Rate count unit) s =
    fault_of_rate text s.inner s.encloses.whole ∙ rate_no_fault s.inner count unit s.encloses.bare s.spelled
spelled_no_fault text (exprs.Cron sets) s =
    fault_of_cron text s.inner s.encloses.whole ∙ cron_no_fault s.inner s.fields sets.days s.encloses.bare s.spelled s.days

-- one text encloses one
enclosed_once : (opening text one other : List ℕ) → text ≡ enclosed opening one → text ≡ enclosed opening other → one ≡ other
enclosed_once opening text one other a b =
    let e : Some one ≡ Some other = sym (inside-enclosed opening one) ∙ ap (inside opening) (sym a ∙ b) ∙ inside-enclosed opening other in cc

at_once : (text : List ℕ) (a b : Civil) → is_civil a ≡ true → is_civil b ≡ true → text ≡ at_text a → text ≡ at_text b → a ≡ b
at_once text a b real_a real_b is_a is_b =
    sym (civil_back a (real_parts a real_a))
    ∙ ap civil_of (enclosed_once (codes "at(") text (at_inner a) (at_inner b) is_a is_b)
    ∙ civil_back b (real_parts b real_b)

fields_once : (pieces : List (List ℕ)) (a b : Fields) → SpellFields pieces a → SpellFields pieces b → a ≡ b
fields_once [] a b one two = absurd one
fields_once (p ∷ []) a b one two = absurd one
fields_once (p ∷ q ∷ []) a b one two = absurd one
fields_once (p ∷ q ∷ r ∷ []) a b one two = absurd one
fields_once (p ∷ q ∷ r ∷ s ∷ []) a b one two = absurd one
fields_once (p ∷ q ∷ r ∷ s ∷ t ∷ []) a b one two = absurd one
fields_once (p ∷ q ∷ r ∷ s ∷ t ∷ u ∷ []) a b one two =
    let m = rows_once cron.minutes (cut 44 p) a.minutes b.minutes one.0.rows two.0.rows in
    let h = rows_once cron.hours (cut 44 q) a.hours b.hours one.1.rows two.1.rows in
    let d = rows_once cron.day_of_month (cut 44 r) a.days b.days one.2.rows two.2.rows in
    let o = rows_once cron.month (cut 44 s) a.months b.months one.3.rows two.3.rows in
    let w = rows_once cron.day_of_week (cut 44 t) a.week b.week one.4.rows two.4.rows in
    let y = rows_once cron.year (cut 44 u) a.years b.years one.5.rows two.5.rows in
    λ i. record { minutes = m i; hours = h i; days = d i; months = o i; week = w i; years = y i }
fields_once (p ∷ q ∷ r ∷ s ∷ t ∷ u ∷ v ∷ more) a b one two = absurd one

-- the rule of the fields
abbrev pub rule_of_fields : Fields → DayRule
rule_of_fields f = if give_no_rule f.week then month_rule f.days else week_rule f.week

cron_once : (text : List ℕ) (a b : CronSets) → SpellsCron text a → SpellsCron text b → a ≡ b
cron_once text a b one two =
    let inners : two.inner ≡ one.inner = enclosed_once (codes "cron(") text two.inner one.inner two.encloses.whole one.encloses.whole in
    let there : SpellFields (words one.inner) two.fields = subst (λ x. SpellFields (words x) two.fields) inners two.spelled in
    let fields : one.fields ≡ two.fields = fields_once (words one.inner) one.fields two.fields one.spelled there in
    let rule : a.days ≡ b.days = one.days.2 ∙ ap rule_of_fields fields ∙ sym two.days.2 in
    one.gathered ∙ ap (λ f. sets_of f a.days) fields ∙ ap (sets_of two.fields) rule ∙ sym two.gathered

rate_once : (text : List ℕ) (a b : ℕ) (u v : RateUnit) → SpellsRate text a u → SpellsRate text b v → (a ≡ b) × (u ≡ v)
rate_once text a b u v one two =
    let inners : two.inner ≡ one.inner = enclosed_once (codes "rate(") text two.inner one.inner two.encloses.whole one.encloses.whole in
    rate_words_once (words one.inner) a b u v one.spelled (subst (λ x. AreRateWords (words x) b v) inners two.spelled)

-- texts with two openings
at_or_rate : (x y : List ℕ) → enclosed (codes "at(") x ≡ enclosed (codes "rate(") y → ⊥
at_or_rate x y e = let heads : ◌≡◌ {A = ℕ} 97 114 = ap (λ t. slice_index t 0) e in omega arith

at_or_cron : (x y : List ℕ) → enclosed (codes "at(") x ≡ enclosed (codes "cron(") y → ⊥
at_or_cron x y e = let heads : ◌≡◌ {A = ℕ} 97 99 = ap (λ t. slice_index t 0) e in omega arith

rate_or_cron : (x y : List ℕ) → enclosed (codes "rate(") x ≡ enclosed (codes "cron(") y → ⊥
rate_or_cron x y e = let heads : ◌≡◌ {A = ℕ} 114 99 = ap (λ t. slice_index t 0) e in omega arith

-- a text spells at most one expression
pub spelled_once : (text : List ℕ) (a b : Expr) → Spells text a → Spells text b → a ≡ b
spelled_once text (exprs.At a) (exprs.At b) one two = ap exprs.At (at_once text a b one.0 two.0 one.1 two.1)
spelled_once text (exprs.At a) (exprs.Rate count unit) one two = absurd (at_or_rate (at_inner a) two.inner (sym one.1 ∙ two.encloses.whole))
spelled_once text (exprs.At a) (exprs.Cron sets) one two = absurd (at_or_cron (at_inner a) two.inner (sym one.1 ∙ two.encloses.whole))
spelled_once text (exprs.Rate count unit) (exprs.At b) one two = absurd (at_or_rate (at_inner b) one.inner (sym two.1 ∙ one.encloses.whole))
spelled_once text (exprs.Rate count unit) (exprs.Rate other another) one two =
    let same_rate = rate_once text count other unit another one two in
    λ t. exprs.Rate (same_rate.0 t) (same_rate.1 t)
spelled_once text (exprs.Rate count unit) (exprs.Cron sets) one two =
    absurd (rate_or_cron one.inner two.inner (sym one.encloses.whole ∙ two.encloses.whole))
spelled_once text (exprs.Cron sets) (exprs.At b) one two = absurd (at_or_cron (at_inner b) one.inner (sym two.1 ∙ one.encloses.whole))
spelled_once text (exprs.Cron sets) (exprs.Rate count unit) one two =
    absurd (rate_or_cron two.inner one.inner (sym two.encloses.whole ∙ one.encloses.whole))
spelled_once text (exprs.Cron a) (exprs.Cron b) one two = ap exprs.Cron (cron_once text a b one two)

-- an answer is the expression exactly where the text spells it
pub spelled_exactly : (text : List ℕ) (answer : Result Expr ExprFault) → Answers answer (fault text) (Spells text) → (e : Expr) →
    (answer ≡ Ok e) ↔ Spells text e
spelled_exactly text (Ok a) answers e = (
  λ is. (let P : Expr → Type 0 = Spells text in let same_expr : a ≡ e = cc in subst P same_expr answers.1),
  λ spells. ap (λ x. Ok x) (spelled_once text a e answers.1 spells),
)
spelled_exactly text (Err f) answers e =
    (λ is. cc, λ spells. absurd (let clash : None ≡ Some (told f) = sym (spelled_no_fault text e spells) ∙ answers in cc))

-- and the fault exactly where that is the first
pub fault_exactly : (text : List ℕ) (answer : Result Expr ExprFault) → Answers answer (fault text) (Spells text) → (f : ExprFault) →
    (answer ≡ Err f) ↔ (fault text ≡ Some (told f))
fault_exactly text (Ok a) answers f = (λ is. cc, λ is. absurd (let clash : None ≡ Some (told f) = sym answers.0 ∙ is in cc))
fault_exactly text (Err g) answers f = (
  λ is. (let same_fault : g ≡ f = cc in answers ∙ ap (λ x. Some (told x)) same_fault),
  λ is. (let same_told : told g ≡ told f = cc in
      let same_fault : g ≡ f = λ t. record { number = (same_told t).number; at = (same_told t).at } in ap (λ x. Err x) same_fault),
)

-- what is read is valid
pub read_valid : (text : List ℕ) (answer : Result Expr ExprFault) → Answers answer (fault text) (Spells text) → IfOk answer IsValidExpression
read_valid text (Ok e) answers = record { text = text; spells = answers.1 }
read_valid text (Err f) answers = tt

-- an answer by a form is the answer to the text
pub answers_of_form : (text whole : List ℕ) (found : Option Fault) (answer : Result Expr ExprFault) → text ≡ whole → fault text ≡ found →
    Answers answer found (Spells whole) → Answers answer (fault text) (Spells text)
answers_of_form text whole found (Ok e) is by answers = (by ∙ answers.0, subst (λ t. Spells t e) (sym is) answers.1)
answers_of_form text whole found (Err f) is by answers = by ∙ answers

-- a text without a form
pub no_form : (text : List ℕ) → None ≡ inside (codes "at(") text → None ≡ inside (codes "rate(") text → None ≡ inside (codes "cron(") text →
    fault text ≡ shape_fault
unfolding fault
no_form text a r n = rw (sym a, sym r, sym n) refl
