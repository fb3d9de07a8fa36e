-- What a text spells is what the function of what it spells gives.
use Rattle.std.proofs.Common.{◌≡◌, ℕ, Bool, true, false, List, [], ◌∷◌, refl, sym, ap, ◌∙◌, Option, Some, None, Result, Ok, Err}
use Rattle.std.specs.Prelude.{codes, is_none, if◌then◌else◌}
use Rattle.std.specs.List.{filter_map, cons_option}
use Rattle.std.specs.Option.{option_map}
use Rattle.std.specs.Result.{result_ok}
use Rattle.expressions.specs.declared.expression.CronSets.{CronSets}
use Rattle.expressions.specs.declared.expression.Expr.{Expr}
use Rattle.expressions.specs.declared.expression.Expr.TheVariants as exprs
use Rattle.expressions.specs.declared.expression.Unit.{Unit as RateUnit}
use Rattle.expressions.specs.Pieces.{cut, inside, words}
use Rattle.expressions.specs.CronItems as cron
use Rattle.expressions.specs.CronItems.{row}
use Rattle.expressions.specs.Spelling.{AreRateWords, AreRows, Fields, SpellFields, SpellsCron, Spells, sets_of}
use Rattle.expressions.specs.ExpressionFaults.{Fault, fault}
use Rattle.expr_grammar.specs.declared.fault.ExprFault.{ExprFault}
use Rattle.expr_grammar.specs.Answers.{Answers, enclosed, told}
use Rattle.expr_grammar.specs.Reading.{civil_of}
use Rattle.expr_grammar.specs.Spelled.{by_form, rate_of, fields_of, cron_of, day_rule, spelled}
use Rattle.expr_grammar.proofs.AtLaws.{at_inner, civil_back, real_parts}
use Rattle.expr_grammar.proofs.InsideLaws.{inside-enclosed}
use Rattle.expr_grammar.proofs.Laws.{spelled_no_fault}

-- the items of rows
rows_are : (field : cron.Field) (pieces : List (List ℕ)) (all : List cron.Item) → AreRows field pieces all → filter_map (row field) pieces ≡ all
rows_are field [] [] are = refl
rows_are field [] (i ∷ is) are = absurd are
rows_are field (p ∷ ps) [] are = absurd are
rows_are field (p ∷ ps) (i ∷ is) are =
    ap (λ o. cons_option o (filter_map (row field) ps)) are.0.is ∙ ap (λ more. i ∷ more) (rows_are field ps is are.1)

fields_are : (pieces : List (List ℕ)) (f : Fields) → SpellFields pieces f → fields_of pieces ≡ Some f
fields_are [] f are = absurd are
fields_are (p ∷ []) f are = absurd are
fields_are (p ∷ q ∷ []) f are = absurd are
fields_are (p ∷ q ∷ r ∷ []) f are = absurd are
fields_are (p ∷ q ∷ r ∷ s ∷ []) f are = absurd are
fields_are (p ∷ q ∷ r ∷ s ∷ t ∷ []) f are = absurd are
fields_are (p ∷ q ∷ r ∷ s ∷ t ∷ u ∷ []) f are =
    let m = rows_are cron.minutes (cut 44 p) f.minutes are.0.rows in
    let h = rows_are cron.hours (cut 44 q) f.hours are.1.rows in
    let d = rows_are cron.day_of_month (cut 44 r) f.days are.2.rows in
    let o = rows_are cron.month (cut 44 s) f.months are.3.rows in
    let w = rows_are cron.day_of_week (cut 44 t) f.week are.4.rows in
    let y = rows_are cron.year (cut 44 u) f.years are.5.rows in
    λ i. Some (record { minutes = m i; hours = h i; days = d i; months = o i; week = w i; years = y i })
fields_are (p ∷ q ∷ r ∷ s ∷ t ∷ u ∷ v ∷ more) f are = absurd are

rate_is : (pieces : List (List ℕ)) (count : ℕ) (unit : RateUnit) → AreRateWords pieces count unit → rate_of pieces ≡ Some (exprs.Rate count unit)
rate_is [] count unit are = absurd are
rate_is (value ∷ []) count unit are = absurd are
rate_is (value ∷ name ∷ []) count unit are = rw (are.0, are.2) refl
rate_is (value ∷ name ∷ other ∷ more) count unit are = absurd are

cron_is : (text : List ℕ) (sets : CronSets) → (s : SpellsCron text sets) → cron_of (words s.inner) ≡ Some (exprs.Cron sets)
cron_is text sets s =
    ap (option_map (λ (f : Fields). exprs.Cron (sets_of f (day_rule f)))) (fields_are (words s.inner) s.fields s.spelled)
    ∙ ap (λ rule. Some (exprs.Cron (sets_of s.fields rule))) (sym s.days.2)
    ∙ ap (λ x. Some (exprs.Cron x)) (sym s.gathered)

-- the expression by the form of a text
form_of : List ℕ → Option Expr
form_of text = by_form (inside (codes "at(") text) (inside (codes "rate(") text) (inside (codes "cron(") text)

form_is : (text : List ℕ) (e : Expr) → Spells text e → form_of text ≡ Some e
unfolding form_of
form_is text (exprs.At c) s =
    ap form_of s.1
    ∙ ap (λ o. by_form o (inside (codes "rate(") (enclosed (codes "at(") (at_inner c))) (inside (codes "cron(") (enclosed (codes "at(") (at_inner c)))) (inside-enclosed (codes "at(") (at_inner c))
    ∙ ap (λ d. Some (exprs.At d)) (civil_back c (real_parts c s.0))
form_is text (exprs.Rate count unit) s =
    ap form_of s.encloses.whole
    ∙ ap (λ o. by_form None o (inside (codes "cron(") (enclosed (codes "rate(") s.inner))) (inside-enclosed (codes "rate(") s.inner)
    ∙ rate_is (words s.inner) count unit s.spelled
form_is text (exprs.Cron sets) s =
    ap form_of s.encloses.whole ∙ ap (λ o. by_form None None o) (inside-enclosed (codes "cron(") s.inner) ∙ cron_is text sets s

-- the function gives what the text spells
pub spelled_is : (text : List ℕ) (e : Expr) → Spells text e → spelled text ≡ Some e
unfolding spelled form_of
spelled_is text e s =
    ap (λ (o : Option Fault). if is_none o then form_of text else None) (spelled_no_fault text e s) ∙ form_is text e s

-- and nothing for a text with a fault
pub spelled_none : (text : List ℕ) (f : Fault) → fault text ≡ Some f → spelled text ≡ None
unfolding spelled form_of
spelled_none text f is = ap (λ (o : Option Fault). if is_none o then form_of text else None) is

-- an answer is what the function gives
pub spelled_answer : (text : List ℕ) (answer : Result Expr ExprFault) → Answers answer (fault text) (Spells text) → result_ok answer ≡ spelled text
spelled_answer text (Ok e) answers = sym (spelled_is text e answers.1)
spelled_answer text (Err f) answers = sym (spelled_none text (told f) answers)
