-- The loops of the printer: whether a set is full, where a run ends, and the runs that are printed so far.
use Rattle.std.proofs.Common.{◌≡◌, ℕ, suc, ◌+◌, ◌-◌, ◌<◌, ◌≤◌, Bool, true, false, cond, List, [], ◌∷◌, ◌++◌, refl, sym, ap, ◌∙◌, arith, append_assoc}
use Rattle.std.specs.Prelude.{map, codes}
use Rattle.std.specs.List.{join_with_byte}
use Rattle.plain_words.specs.Lists.{only_if}
use Rattle.expressions.specs.Canonical.{all_pass, begins_run, run_end, run_text, runs_from, value_count}
use Rattle.expressions.specs.CronItems as cron
use Rattle.expr_grammar.specs.ValueSets.{IsPrinted, are_none, run_at}

one_less : (v end : ℕ) → v < end → end - v ≡ suc (end - (v + 1))
one_less v end less = omega arith

pub full_more : (test : ℕ → Bool) (v end : ℕ) → v < end → test v ≡ true → all_pass test (v + 1) (end - (v + 1)) ≡ all_pass test v (end - v)
full_more test v end less is = let e = one_less v end less in rw (e, is) refl

pub full_stops : (test : ℕ → Bool) (v end : ℕ) → v < end → test v ≡ false → false ≡ all_pass test v (end - v)
full_stops test v end less is = let e = one_less v end less in rw (e, is) refl

pub full_end : (test : ℕ → Bool) (v end : ℕ) → v ≡ end → all_pass test v (end - v) ≡ true
full_end test v end is = let none : end - v ≡ 0 = omega arith in rw none refl

pub end_more : (test : ℕ → Bool) (next greatest : ℕ) → 1 ≤ next → next ≤ greatest → test next ≡ true →
    run_end test (next + 1 - 1) (greatest - (next + 1 - 1)) ≡ run_end test (next - 1) (greatest - (next - 1))
end_more test next greatest low high is =
    let here : next + 1 - 1 ≡ next = omega arith in
    let back : next - 1 + 1 ≡ next = omega arith in
    let more : greatest - (next - 1) ≡ suc (greatest - next) = omega arith in
    ap (λ x. run_end test x (greatest - x)) here ∙ sym (ap (run_end test (next - 1)) more ∙ (rw (back, is) refl))

-- the comma in front of a run, unless it is the first
abbrev pub comma_unless : Bool → List ℕ
comma_unless first = cond first (codes "") (codes ",")

joined_more : (done : List (ℕ × ℕ)) (run : ℕ × ℕ) →
    join_with_byte 44 (map run_text (done ++ run ∷ [])) ≡ join_with_byte 44 (map run_text done) ++ (comma_unless (are_none done) ++ run_text run)
joined_more [] run = refl
joined_more (x ∷ []) run = refl
joined_more (x ∷ y ∷ ys) run =
    ap (λ t. run_text x ++ 44 ∷ t) (joined_more (y ∷ ys) run)
    ∙ sym (append_assoc (run_text x) (44 ∷ join_with_byte 44 (map run_text (y ∷ ys))) (comma_unless false ++ run_text run))

none_behind : (done : List (ℕ × ℕ)) (run : ℕ × ℕ) → false ≡ are_none (done ++ run ∷ [])
none_behind [] run = refl
none_behind (x ∷ xs) run = refl

-- a run that begins at the value is printed
pub printed_one : (before text comma behind : List ℕ) (first begins : Bool) (done : List (ℕ × ℕ)) (run : ℕ × ℕ) → begins ≡ true →
    comma ≡ text ++ comma_unless first → behind ≡ comma ++ run_text run →
    IsPrinted before text first done → IsPrinted before behind false (done ++ only_if begins run)
printed_one before text comma behind first begins done run on is_comma is_behind printed =
    let same : done ++ only_if begins run ≡ done ++ run ∷ [] = ap (λ b. done ++ only_if b run) on in
    record {
      is =
          is_behind ∙ ap (λ t. t ++ run_text run) (is_comma ∙ ap (λ b. text ++ comma_unless b) printed.first)
          ∙ ap (λ t. (t ++ comma_unless (are_none done)) ++ run_text run) printed.is
          ∙ append_assoc (before ++ join_with_byte 44 (map run_text done)) (comma_unless (are_none done)) (run_text run)
          ∙ append_assoc before (join_with_byte 44 (map run_text done)) (comma_unless (are_none done) ++ run_text run)
          ∙ ap (λ t. before ++ t) (sym (joined_more done run))
          ∙ ap (λ d. before ++ join_with_byte 44 (map run_text d)) (sym same);
      first = none_behind done run ∙ ap are_none (sym same);
    }

-- the runs that begin before a value are printed, and those that are left begin from it on
pub record Printing (field : cron.Field) (test : ℕ → Bool) (before text : List ℕ) (is_first : Bool) (v end : ℕ) : Type 0 where
  pub done : List (ℕ × ℕ)
  pub printed : IsPrinted before text is_first done
  pub runs : done ++ runs_from test (cron.least field) v (end - v) ≡ runs_from test (cron.least field) (cron.least field) (value_count field)

pub printing_more : (field : cron.Field) (test : ℕ → Bool) (before text next : List ℕ) (is_first first : Bool) (v end : ℕ) → v < end → end ≡ cron.greatest field + 1 →
    ((from : List ℕ) (done : List (ℕ × ℕ)) → IsPrinted from text is_first done → IsPrinted from next first (done ++ run_at field test v)) →
    Printing field test before text is_first v end → Printing field test before next first (v + 1) end
printing_more field test before text next is_first first v end less all step p =
    let left : end - v ≡ suc (end - (v + 1)) = one_less v end less in
    let room : cron.greatest field - v ≡ end - (v + 1) = omega arith in
    let whole : runs_from test (cron.least field) v (end - v)
    ≡ only_if (begins_run test (cron.least field) v) (v, run_end test v (end - (v + 1))) ++ runs_from test (cron.least field) (v + 1) (end - (v + 1))
    = ap (runs_from test (cron.least field) v) left in
    record {
      done = p.done ++ run_at field test v;
      printed = step before p.done p.printed;
      runs =
          append_assoc p.done (run_at field test v) (runs_from test (cron.least field) (v + 1) (end - (v + 1)))
          ∙ ap (λ n. p.done ++ (only_if (begins_run test (cron.least field) v) (v, run_end test v n) ++ runs_from test (cron.least field) (v + 1) (end - (v + 1)))) room
          ∙ ap (λ x. p.done ++ x) (sym whole)
          ∙ p.runs;
    }

-- the parts of a cron in a row
pub cron_put : (old a b c d e f g h i j minutes hours days months week years : List ℕ) →
    a ≡ old ++ codes "cron(" → b ≡ a ++ (minutes ++ codes " " ++ hours ++ codes " ") → c ≡ b ++ days → d ≡ c ++ codes " " →
    e ≡ d ++ months → f ≡ e ++ codes " " → g ≡ f ++ week → h ≡ g ++ codes " " → i ≡ h ++ years → j ≡ i ++ codes ")" →
    j ≡ old ++ (codes "cron(" ++ minutes ++ codes " " ++ hours ++ codes " " ++ days ++ codes " " ++ months ++ codes " " ++ week ++ codes " " ++ years ++ codes ")")
cron_put old a b c d e f g h i j minutes hours days months week years ea eb ec ed ee ef eg eh ei ej =
    simp (ej, ei, eh, eg, ef, ee, ed, ec, eb, ea, append_assoc)
