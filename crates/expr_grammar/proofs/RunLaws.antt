-- The maximal runs of a set have its values and no others.
use Rattle.std.proofs.Common.{◌≡◌, ℕ, zero, suc, ◌+◌, ◌-◌, ◌%◌, ◌<◌, ◌≤◌, Bool, true, false, cond, List, [], ◌∷◌, ◌++◌, refl, sym, ap, ◌∙◌, arith, le-leb, eq-eqb, ◌⊎◌, inl, inr}
use Rattle.plain_words.proofs.Booleans.{or_false, or_assoc}
use Rattle.std.specs.Prelude.{map, nat_le, ◌&&◌, ◌||◌, ◌==◌, not}
use Rattle.std.specs.List.{list_any}
use Rattle.std.proofs.lemmas.Bool.{leb-true, false≢true, cases_lt, or_cases, or_left, or_right, and_parts, false_from_ne_true}
use Rattle.plain_words.specs.Lists.{only_if}
use Rattle.expressions.specs.Canonical.{all_pass, begins_run, run_end, runs_from}
use Rattle.expressions.specs.CronItems as cron
use Rattle.expressions.specs.CronItems.{contains, is_in_range}
use Rattle.expr_grammar.proofs.SetLaws.{AllInRange}

-- the item of a run
abbrev pub run_item : ℕ × ℕ → cron.Item
run_item run = cron.values run.0 run.1 1

-- the value is one of the runs
abbrev pub covers : ℕ → List (ℕ × ℕ) → Bool
covers w runs = list_any (contains w) (map run_item runs)

-- where all of some values pass, each does
pub pass_at : (test : ℕ → Bool) (v n w : ℕ) → all_pass test v n ≡ true → v ≤ w → w < v + n → test w ≡ true
pass_at test v zero w all low high = absurd (omega arith)
pass_at test v (suc n) w all low high = by_place (pass_at test (v + 1) n w) (cases_lt v w) where
  parts : (test v ≡ true) × (all_pass test (v + 1) n ≡ true)
  parts = and_parts (test v) (all_pass test (v + 1) n) all

  by_place : (all_pass test (v + 1) n ≡ true → v + 1 ≤ w → w < v + 1 + n → test w ≡ true) → (v < w) ⊎ (w ≤ v) → test w ≡ true
  by_place later (inl above) = later parts.1 (omega arith) (omega arith)
  by_place later (inr below) = let same : w ≡ v = omega arith in ap test same ∙ parts.0

pub end_low : (test : ℕ → Bool) (v n : ℕ) → v ≤ run_end test v n
end_low test v zero = omega arith
end_low test v (suc n) = by_test (test (v + 1)) (end_low test (v + 1) n) where
  by_test : (next : Bool) → v + 1 ≤ run_end test (v + 1) n → v ≤ cond next (run_end test (v + 1) n) v
  by_test true later = omega arith
  by_test false later = omega arith

pub end_high : (test : ℕ → Bool) (v n : ℕ) → run_end test v n ≤ v + n
end_high test v zero = omega arith
end_high test v (suc n) = by_test (test (v + 1)) (end_high test (v + 1) n) where
  by_test : (next : Bool) → run_end test (v + 1) n ≤ v + 1 + n → cond next (run_end test (v + 1) n) v ≤ v + suc n
  by_test true later = omega arith
  by_test false later = omega arith

-- each value of a run passes
end_passes : (test : ℕ → Bool) (v n w : ℕ) → test v ≡ true → v ≤ w → w ≤ run_end test v n → test w ≡ true
end_passes test v zero w here low high = let same : w ≡ v = omega arith in ap test same ∙ here
end_passes test v (suc n) w here low high = by_test (test (v + 1)) refl (end_passes test (v + 1) n w) high where
  by_place : (test (v + 1) ≡ true → v + 1 ≤ w → w ≤ run_end test (v + 1) n → test w ≡ true) → test (v + 1) ≡ true → w ≤ run_end test (v + 1) n →
      (v < w) ⊎ (w ≤ v) → test w ≡ true
  by_place later is within (inl above) = later is (omega arith) within
  by_place later is within (inr below) = let same : w ≡ v = omega arith in ap test same ∙ here

  by_test : (next : Bool) → test (v + 1) ≡ next → (test (v + 1) ≡ true → v + 1 ≤ w → w ≤ run_end test (v + 1) n → test w ≡ true) →
      w ≤ cond next (run_end test (v + 1) n) v → test w ≡ true
  by_test true is later within = by_place later is within (cases_lt v w)
  by_test false is later within = let same : w ≡ v = omega arith in ap test same ∙ here

-- behind a run that ends before the last value is one that does not pass
end_stops : (test : ℕ → Bool) (v n : ℕ) → run_end test v n < v + n → test (run_end test v n + 1) ≡ false
end_stops test v zero less = absurd (omega arith)
end_stops test v (suc n) less = by_test (test (v + 1)) refl (end_stops test (v + 1) n) less where
  by_test : (next : Bool) → test (v + 1) ≡ next → (run_end test (v + 1) n < v + 1 + n → test (run_end test (v + 1) n + 1) ≡ false) →
      cond next (run_end test (v + 1) n) v < v + suc n → test (cond next (run_end test (v + 1) n) v + 1) ≡ false
  by_test true is later within = later (omega arith)
  by_test false is later within = is

pub in_run : (w a b : ℕ) → a ≤ w → w ≤ b → contains w (cron.values a b 1) ≡ true
in_run w a b low high =
    let from : nat_le a w ≡ true = le-leb _ _ low in
    let to : nat_le w b ≡ true = le-leb _ _ high in
    let step : (((w - a) % 1) == 0) ≡ true = eq-eqb _ _ (omega arith) in
    rw (from, to, step) refl

pub run_has : (w a b : ℕ) → contains w (cron.values a b 1) ≡ true → (a ≤ w) × (w ≤ b)
run_has w a b is =
    let bounds = and_parts (nat_le a w) (nat_le w b) (and_parts (nat_le a w && nat_le w b) (((w - a) % 1) == 0) is).0 in
    (leb-true _ _ bounds.0, leb-true _ _ bounds.1)

covers_append : (w : ℕ) (xs ys : List (ℕ × ℕ)) → covers w (xs ++ ys) ≡ (covers w xs || covers w ys)
covers_append w [] ys = refl
covers_append w (x ∷ xs) ys =
    ap (λ b. contains w (run_item x) || b) (covers_append w xs ys) ∙ sym (or_assoc (contains w (run_item x)) (covers w xs) (covers w ys))

-- the run that begins at a value, if one does
abbrev run_here : (ℕ → Bool) → ℕ → ℕ → ℕ → List (ℕ × ℕ)
run_here test low v n = only_if (begins_run test low v) (v, run_end test v n)

-- a value of a run passes
covered_pass : (test : ℕ → Bool) (low v n w : ℕ) → covers w (runs_from test low v n) ≡ true → test w ≡ true
covered_pass test low v zero w is = cc
covered_pass test low v (suc n) w is =
    by_part (covered_pass test low (v + 1) n w)
    (or_cases (covers w (run_here test low v n)) (covers w (runs_from test low (v + 1) n)) (sym (covers_append w (run_here test low v n) (runs_from test low (v + 1) n)) ∙ is)) where
      first_pass : (begins : Bool) → begins_run test low v ≡ begins → covers w (only_if begins (v, run_end test v n)) ≡ true → test w ≡ true
      first_pass true opens found =
          let here : test v ≡ true = (and_parts (test v) ((v == low) || not (test (v - 1))) opens).0 in
          let within = run_has w v (run_end test v n) (sym (or_false (contains w (cron.values v (run_end test v n) 1))) ∙ found) in
          end_passes test v n w here within.0 within.1
      first_pass false opens found = cc

      by_part : (covers w (runs_from test low (v + 1) n) ≡ true → test w ≡ true) →
          (covers w (run_here test low v n) ≡ true) ⊎ (covers w (runs_from test low (v + 1) n) ≡ true) → test w ≡ true
      by_part later (inl first) = first_pass (begins_run test low v) refl first
      by_part later (inr rest) = later rest

-- a run may begin at the value: it is the least one, or the one below does not pass
abbrev Opens : (ℕ → Bool) → ℕ → ℕ → Type 0
Opens test low v = (v ≡ low) ⊎ (test (v - 1) ≡ false)

begins_by : (test : ℕ → Bool) (low v : ℕ) → test v ≡ true → Opens test low v → begins_run test low v ≡ true
begins_by test low v here (inl first) = let t : (v == low) ≡ true = eq-eqb v low first in rw (here, t) refl
begins_by test low v here (inr apart) = rw (here, apart) (or_right (v == low) true refl)

-- behind each gap up to the value, it is one of the runs that begin at n values from v on
abbrev Later : (ℕ → Bool) → ℕ → ℕ → ℕ → ℕ → Type 0
Later test low v n w = (g : ℕ) → v ≤ g → g ≤ w → Opens test low g → covers w (runs_from test low v n) ≡ true

-- a value that passes, not before a value at which a run may begin, is one of a run
pass_covered : (test : ℕ → Bool) (low v n w gap : ℕ) → test w ≡ true → v ≤ gap → gap ≤ w → w < v + n → Opens test low gap →
    covers w (runs_from test low v n) ≡ true
pass_covered test low v zero w gap passes low_gap high_gap within opens = absurd (omega arith)
pass_covered test low v (suc n) w gap passes low_gap high_gap within opens =
    by_gap (λ g l h o. pass_covered test low (v + 1) n w g passes l h (omega arith) o) (cases_lt v gap) where
      in_rest : covers w (runs_from test low (v + 1) n) ≡ true → covers w (runs_from test low v (suc n)) ≡ true
      in_rest found =
          covers_append w (run_here test low v n) (runs_from test low (v + 1) n)
          ∙ or_right (covers w (run_here test low v n)) (covers w (runs_from test low (v + 1) n)) found

      in_first : begins_run test low v ≡ true → w ≤ run_end test v n → v ≤ w → covers w (runs_from test low v (suc n)) ≡ true
      in_first begins high above =
          covers_append w (run_here test low v n) (runs_from test low (v + 1) n)
          ∙ or_left (covers w (run_here test low v n)) (covers w (runs_from test low (v + 1) n))
          (ap (λ b. covers w (only_if b (v, run_end test v n))) begins
          ∙ or_left (contains w (cron.values v (run_end test v n) 1)) false (in_run w v (run_end test v n) above high))

      apart : (x : ℕ) → test x ≡ false → w ≡ x → ⊥
      apart x off same = false≢true (sym off ∙ ap test (sym same) ∙ passes)

      less : (x : ℕ) → x ≤ w → (w ≡ x → ⊥) → x + 1 ≤ w
      less x le other = by_place (cases_lt x w) where
        by_place : (x < w) ⊎ (w ≤ x) → x + 1 ≤ w
        by_place (inl above) = omega arith
        by_place (inr below) = absurd (other (omega arith))

      back_one : (x : ℕ) → x + 1 - 1 ≡ x
      back_one x = omega arith

      back_two : (x : ℕ) → x + 2 - 1 ≡ x + 1
      back_two x = omega arith

      past_end : Later test low (v + 1) n w → run_end test v n < w → covers w (runs_from test low v (suc n)) ≡ true
      past_end later past =
          let le : v ≤ run_end test v n = end_low test v n in
          let stops : test (run_end test v n + 1) ≡ false = end_stops test v n (omega arith) in
          let further : run_end test v n + 1 + 1 ≤ w = less (run_end test v n + 1) (omega arith) (apart (run_end test v n + 1) stops) in
          in_rest (later (run_end test v n + 2) (omega arith) (omega arith) (inr (ap test (back_two (run_end test v n)) ∙ stops)))

      by_end : Later test low (v + 1) n w → begins_run test low v ≡ true → v ≤ w → (run_end test v n < w) ⊎ (w ≤ run_end test v n) → covers w (runs_from test low v (suc n)) ≡ true
      by_end later begins above (inl past) = past_end later past
      by_end later begins above (inr high) = in_first begins high above

      by_here : Later test low (v + 1) n w → Opens test low v → v ≤ w → (here : Bool) → test v ≡ here → covers w (runs_from test low v (suc n)) ≡ true
      by_here later o above true is = by_end later (begins_by test low v is o) above (cases_lt (run_end test v n) w)
      by_here later o above false is =
          in_rest (later (v + 1) (omega arith) (less v above (apart v is)) (inr (ap test (back_one v) ∙ is)))

      by_gap : Later test low (v + 1) n w → (v < gap) ⊎ (gap ≤ v) → covers w (runs_from test low v (suc n)) ≡ true
      by_gap later (inl above) = in_rest (later gap (omega arith) high_gap opens)
      by_gap later (inr below) =
          let same : gap ≡ v = omega arith in
          by_here later (at_v same opens) (omega arith) (test v) refl where
            at_v : gap ≡ v → Opens test low gap → Opens test low v
            at_v s (inl first) = inl (sym s ∙ first)
            at_v s (inr off) = inr (ap (λ g. test (g - 1)) (sym s) ∙ off)

-- a value is one of the maximal runs exactly where it passes
pub covers_is : (test : ℕ → Bool) (low n w : ℕ) → low ≤ w → w < low + n → covers w (runs_from test low low n) ≡ test w
covers_is test low n w above within = by_test (test w) refl where
  by_test : (here : Bool) → test w ≡ here → covers w (runs_from test low low n) ≡ here
  by_test true is = pass_covered test low low n w low is (omega arith) above within (inl refl)
  by_test false is = false_from_ne_true (covers w (runs_from test low low n)) (λ found. false≢true (sym is ∙ covered_pass test low low n w found))

-- the run is one of values of the field
abbrev pub RunFits : cron.Field → ℕ × ℕ → Type 0
RunFits field run = (cron.least field ≤ run.0) × (run.0 ≤ run.1) × (run.1 ≤ cron.greatest field)

abbrev pub AllFit : cron.Field → List (ℕ × ℕ) → Type 0
AllFit field [] = Unit {0}
AllFit field (run ∷ runs) = RunFits field run × AllFit field runs

pub runs_fit : (field : cron.Field) (test : ℕ → Bool) (v n : ℕ) → cron.least field ≤ v → v + n ≡ cron.greatest field + 1 →
    AllFit field (runs_from test (cron.least field) v n)
runs_fit field test v zero low all = tt
runs_fit field test v (suc n) low all = by_begin (begins_run test (cron.least field) v) (runs_fit field test (v + 1) n (omega arith) (omega arith)) where
  by_begin : (begins : Bool) → AllFit field (runs_from test (cron.least field) (v + 1) n) →
      AllFit field (only_if begins (v, run_end test v n) ++ runs_from test (cron.least field) (v + 1) n)
  by_begin true later = ((low, end_low test v n, (let high = end_high test v n in omega (arith, high))), later)
  by_begin false later = later

run_in_range : (field : cron.Field) (run : ℕ × ℕ) → RunFits field run → is_in_range field (run_item run) ≡ true
run_in_range field run fits =
    let a = fits.0 in
    let b = fits.1 in
    let c = fits.2 in
    let low : nat_le (cron.least field) run.0 ≡ true = le-leb _ _ a in
    let low_high : nat_le run.0 (cron.greatest field) ≡ true = le-leb _ _ (omega arith) in
    let high_low : nat_le (cron.least field) run.1 ≡ true = le-leb _ _ (omega arith) in
    let high : nat_le run.1 (cron.greatest field) ≡ true = le-leb _ _ c in
    let order : nat_le run.0 run.1 ≡ true = le-leb _ _ b in
    rw (low, low_high, high_low, high, order) refl

pub fit_in_range : (field : cron.Field) (runs : List (ℕ × ℕ)) → AllFit field runs → AllInRange field (map run_item runs)
fit_in_range field [] fits = tt
fit_in_range field (run ∷ runs) fits = (run_in_range field run fits.0, fit_in_range field runs fits.1)
