-- What is printed of a set is read back as items that have its values.
use Rattle.std.proofs.Common.{◌≡◌, ℕ, ◌<◌, ◌≤◌, Bool, true, false, cond, List, [], ◌∷◌, ◌++◌, length, refl, sym, ap, ◌∙◌, arith, Some, length-append, lit<, subst}
use Rattle.std.specs.Prelude.{map, codes, decimal, ◌==◌, ◌||◌, not}
use Rattle.std.specs.List.{join_with_byte, list_all, list_any}
use Rattle.std.proofs.lemmas.Bool.{eqb-true, false≢true, false_from_ne_true}
use Rattle.expressions.specs.Pieces.{cut, is_digit, same}
use Rattle.expressions.specs.Canonical.{all_pass, run_text, runs_from, set_text, value_count}
use Rattle.expressions.specs.CronItems as cron
use Rattle.expressions.specs.CronItems.{contains, row, row_of_parts}
use Rattle.expressions.specs.Spelling.{AreRows, SpellsField, may_stand_together}
use Rattle.expr_grammar.proofs.DecimalLaws.{greatest_small, value_back, written}
use Rattle.expr_grammar.proofs.LackLaws.{AllLack, Lacks, cut_behind, cut_joined, cut_lacking, digits_lack, joined_lacks, lacks_append}
use Rattle.expr_grammar.proofs.RunLaws.{AllFit, RunFits, covers, covers_is, fit_in_range, in_run, pass_at, run_item, runs_fit}
use Rattle.expr_grammar.proofs.SetLaws.{AllInRange}
use Rattle.expr_grammar.proofs.Texts.{same_is}

-- a decimal as a text of a field's value
pub record IsPlain (n : ℕ) : Type 0 where
  pub digits : list_all is_digit (decimal n) ≡ true
  pub some : 0 < length (decimal n)

pub plain : (field : cron.Field) (n : ℕ) → n ≤ cron.greatest field → IsPlain n
plain field n high =
    let small = greatest_small field in
    let w = written n (omega arith) in
    record { digits = w.digits; some = w.some }

-- digits are no `*`
no_star : (text : List ℕ) → list_all is_digit text ≡ true → same text (codes "*") ≡ false
no_star text digits = false_from_ne_true (same text (codes "*")) (λ e. false≢true (sym (ap (list_all is_digit) (same_is text (codes "*") e)) ∙ digits))

one_row_is : (field : cron.Field) (n : ℕ) → cron.least field ≤ n → n ≤ cron.greatest field → row field (decimal n) ≡ Some (cron.values n n 1)
unfolding row
one_row_is field n low high =
    let p = plain field n high in
    let star : same (decimal n) (codes "*") ≡ false = no_star (decimal n) p.digits in
    ap (λ parts. row_of_parts field (map (cut 45) parts)) (cut_lacking 47 (decimal n) (digits_lack 47 (decimal n) refl p.digits))
    ∙ ap (λ parts. row_of_parts field (parts ∷ [])) (cut_lacking 45 (decimal n) (digits_lack 45 (decimal n) refl p.digits))
    ∙ rw (star, value_back field n low high) refl

-- two texts and the hyphen between them
abbrev pub hyphened : ℕ → ℕ → List ℕ
hyphened a b = decimal a ++ 45 ∷ decimal b

two_row_is : (field : cron.Field) (a b : ℕ) → cron.least field ≤ a → a ≤ b → b ≤ cron.greatest field → row field (hyphened a b) ≡ Some (cron.values a b 1)
unfolding row
two_row_is field a b low order high =
    let p = plain field a (omega arith) in
    let q = plain field b high in
    let whole : Lacks 47 (hyphened a b) = lacks_append 47 (decimal a) (45 ∷ decimal b) (digits_lack 47 (decimal a) refl p.digits) (refl, digits_lack 47 (decimal b) refl q.digits) in
    let back : cut 45 (decimal b) ≡ decimal b ∷ [] = cut_lacking 45 (decimal b) (digits_lack 45 (decimal b) refl q.digits) in
    ap (λ parts. row_of_parts field (map (cut 45) parts)) (cut_lacking 47 (hyphened a b) whole)
    ∙ ap (λ parts. row_of_parts field (parts ∷ [])) (cut_behind 45 (decimal a) (decimal b) (digits_lack 45 (decimal a) refl p.digits))
    ∙ ap (λ parts. row_of_parts field ((decimal a ∷ parts) ∷ [])) back
    ∙ rw (value_back field a low (omega arith), value_back field b (omega arith) high) refl

hyphen_is : (a b : List ℕ) → a ++ codes "-" ++ b ≡ a ++ 45 ∷ b
hyphen_is [] b = refl
hyphen_is (x ∷ a) b = ap (λ t. x ∷ t) (hyphen_is a b)

-- the text of a run spells its item
row_of_run : (field : cron.Field) (run : ℕ × ℕ) → RunFits field run → row field (run_text run) ≡ Some (run_item run)
row_of_run field run fits = by_test (run.0 == run.1) refl where
  by_test : (one : Bool) → (run.0 == run.1) ≡ one →
      row field (cond one (decimal run.0) (decimal run.0 ++ codes "-" ++ decimal run.1)) ≡ Some (run_item run)
  by_test true is =
      let same_end : run.0 ≡ run.1 = eqb-true _ _ is in
      one_row_is field run.0 fits.0 (let a = fits.1 in let b = fits.2 in omega arith) ∙ ap (λ b. Some (cron.values run.0 b 1)) same_end
  by_test false is = ap (row field) (hyphen_is (decimal run.0) (decimal run.1)) ∙ two_row_is field run.0 run.1 fits.0 fits.1 fits.2

-- a run's text has a byte, and none but digits and hyphens
run_lacks : (c : ℕ) (field : cron.Field) (run : ℕ × ℕ) → RunFits field run → is_digit c ≡ false → (45 == c) ≡ false → Lacks c (run_text run)
run_lacks c field run fits bare apart = by_test (run.0 == run.1) where
  low : IsPlain run.0
  low = plain field run.0 (let a = fits.1 in let b = fits.2 in omega arith)

  high : IsPlain run.1
  high = plain field run.1 fits.2

  by_test : (one : Bool) → Lacks c (cond one (decimal run.0) (decimal run.0 ++ codes "-" ++ decimal run.1))
  by_test true = digits_lack c (decimal run.0) bare low.digits
  by_test false =
      subst (Lacks c) (sym (hyphen_is (decimal run.0) (decimal run.1)))
      (lacks_append c (decimal run.0) (45 ∷ decimal run.1) (digits_lack c (decimal run.0) bare low.digits) (apart, digits_lack c (decimal run.1) bare high.digits))

run_filled : (field : cron.Field) (run : ℕ × ℕ) → RunFits field run → 0 < length (run_text run)
run_filled field run fits = by_test (run.0 == run.1) where
  low : IsPlain run.0
  low = plain field run.0 (let a = fits.1 in let b = fits.2 in omega arith)

  by_test : (one : Bool) → 0 < length (cond one (decimal run.0) (decimal run.0 ++ codes "-" ++ decimal run.1))
  by_test true = low.some
  by_test false =
      subst (λ t. 0 < length t) (sym (hyphen_is (decimal run.0) (decimal run.1)))
      (omega (arith, low.some, length-append (decimal run.0) (45 ∷ decimal run.1)))

runs_lack : (c : ℕ) (field : cron.Field) (runs : List (ℕ × ℕ)) → AllFit field runs → is_digit c ≡ false → (45 == c) ≡ false → AllLack c (map run_text runs)
runs_lack c field [] fits bare apart = tt
runs_lack c field (run ∷ runs) fits bare apart = (run_lacks c field run fits.0 bare apart, runs_lack c field runs fits.1 bare apart)

rows_of_runs : (field : cron.Field) (runs : List (ℕ × ℕ)) → AllFit field runs → AreRows field (map run_text runs) (map run_item runs)
rows_of_runs field [] fits = tt
rows_of_runs field (run ∷ runs) fits =
    let in_range = fit_in_range field (run ∷ runs) fits in
    (record { is = row_of_run field run fits.0; in_range = in_range.0 }, rows_of_runs field runs fits.1)

-- runs may stand together
none_alone : (runs : List (ℕ × ℕ)) → list_any cron.stands_alone (map run_item runs) ≡ false
none_alone [] = refl
none_alone (run ∷ runs) = none_alone runs

runs_together : (runs : List (ℕ × ℕ)) → may_stand_together (map run_item runs) ≡ true
runs_together [] = refl
runs_together (run ∷ []) = refl
runs_together (run ∷ next ∷ more) = ap not (none_alone more)

joined_filled : (part : List ℕ) (parts : List (List ℕ)) → 0 < length part → 0 < length (join_with_byte 44 (part ∷ parts))
joined_filled part [] some = some
joined_filled part (next ∷ parts) some = omega (arith, some, length-append part (44 ∷ join_with_byte 44 (next ∷ parts)))

-- the items of a field open with values, and have just the field's values that pass
pub record ReadsBack (field : cron.Field) (test : ℕ → Bool) (text : List ℕ) : Type 0 where
  pub first : ℕ × ℕ
  pub more : List (ℕ × ℕ)
  pub spelled : SpellsField field text (map run_item (first ∷ more))
  pub in_range : AllInRange field (map run_item (first ∷ more))
  pub has : (w : ℕ) → cron.least field ≤ w → w ≤ cron.greatest field → covers w (first ∷ more) ≡ test w
  pub filled : 0 < length text
  pub lacks : Lacks 32 text

runs_back : (field : cron.Field) (test : ℕ → Bool) (runs : List (ℕ × ℕ)) (v : ℕ) → AllFit field runs → covers v runs ≡ true →
    ((w : ℕ) → cron.least field ≤ w → w ≤ cron.greatest field → covers w runs ≡ test w) → ReadsBack field test (join_with_byte 44 (map run_text runs))
runs_back field test [] v fits some has = cc
runs_back field test (run ∷ runs) v fits some has = record {
  first = run;
  more = runs;
  spelled = record {
    rows = subst (λ parts. AreRows field parts (map run_item (run ∷ runs)))
        (sym (cut_joined 44 (run_text run) (map run_text runs) (runs_lack 44 field (run ∷ runs) fits refl refl)))
        (rows_of_runs field (run ∷ runs) fits);
    together = runs_together (run ∷ runs);
  };
  in_range = fit_in_range field (run ∷ runs) fits;
  has = has;
  filled = joined_filled (run_text run) (map run_text runs) (run_filled field run fits.0);
  lacks = joined_lacks 32 44 (map run_text (run ∷ runs)) refl (runs_lack 32 field (run ∷ runs) fits refl refl);
}

-- the field's values are from the least to the greatest
order : (field : cron.Field) → cron.least field ≤ cron.greatest field
order cron.minutes = omega arith
order cron.hours = omega arith
order cron.day_of_month = omega arith
order cron.month = omega arith
order cron.day_of_week = omega arith
order cron.year = omega arith

star_row : (field : cron.Field) → row field (codes "*") ≡ Some (cron.values (cron.least field) (cron.greatest field) 1)
unfolding row
star_row cron.minutes = refl
star_row cron.hours = refl
star_row cron.day_of_month = refl
star_row cron.month = refl
star_row cron.day_of_week = refl
star_row cron.year = refl

full_fits : (field : cron.Field) → AllFit field ((cron.least field, cron.greatest field) ∷ [])
full_fits field = ((omega arith, order field, omega arith), tt)

full_back : (field : cron.Field) (test : ℕ → Bool) → all_pass test (cron.least field) (value_count field) ≡ true → ReadsBack field test (codes "*")
full_back field test all =
    let in_range = fit_in_range field ((cron.least field, cron.greatest field) ∷ []) (full_fits field) in
    let high = order field in
    record {
      first = (cron.least field, cron.greatest field);
      more = [];
      spelled = record { rows = (record { is = star_row field; in_range = in_range.0 }, tt); together = refl };
      in_range = in_range;
      has = λ w low within.
          ap (λ b. b || false) (in_run w (cron.least field) (cron.greatest field) low within)
          ∙ sym (pass_at test (cron.least field) (value_count field) w all low (omega arith));
      filled = lit< tt;
      lacks = (refl, tt);
    }

-- the text of a set that is not empty is read back
pub set_back : (field : cron.Field) (test : ℕ → Bool) (v : ℕ) → cron.least field ≤ v → v ≤ cron.greatest field → test v ≡ true → ReadsBack field test (set_text field test)
unfolding set_text
set_back field test v low high passes = by_test (all_pass test (cron.least field) (value_count field)) refl where
  runs : List (ℕ × ℕ)
  runs = runs_from test (cron.least field) (cron.least field) (value_count field)

  has : (w : ℕ) → cron.least field ≤ w → w ≤ cron.greatest field → covers w runs ≡ test w
  has w above within = covers_is test (cron.least field) (value_count field) w above (let o = order field in omega arith)

  fits : AllFit field runs
  fits = runs_fit field test (cron.least field) (value_count field) (omega arith) (let o = order field in omega arith)

  by_test : (full : Bool) → all_pass test (cron.least field) (value_count field) ≡ full →
      ReadsBack field test (cond full (codes "*") (join_with_byte 44 (map run_text runs)))
  by_test true is = full_back field test is
  by_test false is = runs_back field test runs v fits (has v low high ∙ passes) has
