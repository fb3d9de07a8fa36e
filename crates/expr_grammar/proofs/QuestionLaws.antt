-- A day field is `?` exactly where its items give no rule.
use Rattle.std.proofs.Common.{◌≡◌, ℕ, Bool, true, false, List, [], ◌∷◌, refl, sym, ap, ◌∙◌, subst, cond, Option, Some, None}
use Rattle.std.proofs.lemmas.Bool.{false_from_ne_true}
use Rattle.std.specs.Prelude.{map, codes}
use Rattle.std.specs.Option.{option_map, option_and_then}
use Rattle.plain_words.specs.Lists.{first_some, when}
use Rattle.expressions.specs.Pieces.{cut, same, upper}
use Rattle.expressions.specs.CronItems as cron
use Rattle.expressions.specs.CronItems.{row, row_of_parts, every_row, one_row, on_row, range_row, alone_row, question_row, letter_row, near_row, last_row, nth_row, nth_parts, both, value, before_letter, halves, step_in}
use Rattle.expressions.specs.Spelling.{AreRows, SpellsField, give_no_rule, may_stand_together}
use Rattle.expr_grammar.proofs.RowLaws.{single_part, some_part}
use Rattle.expr_grammar.proofs.Texts.{same_is, is_same}

-- the option is not `?`
abbrev pub IsOther : Option cron.Item → Type 0
IsOther o = o ≡ Some cron.no_rule → ⊥

skip : (x : Option cron.Item) (xs : List (Option cron.Item)) (y : cron.Item) → first_some (x ∷ xs) ≡ Some y → (x ≡ Some y → ⊥) → first_some xs ≡ Some y
skip None xs y is other = is
skip (Some x) xs y is other = absurd (other is)

nothing_left : {A : Type 0} (y : A) → first_some [] ≡ Some y → ⊥
nothing_left y is = cc

every_other : (t : Bool) (by : Option ℕ) (from to : ℕ) → IsOther (cond t (option_map (cron.values from to) by) None)
every_other true (Some n) from to is = cc
every_other true None from to is = cc
every_other false by from to is = cc

one_other : (v : Option ℕ) → IsOther (option_map (λ a. cron.values a a 1) v)
one_other (Some a) is = cc
one_other None is = cc

both_other : (x y : Option ℕ) (from to by : ℕ → ℕ → ℕ) → IsOther (both (λ a b. cron.values (from a b) (to a b) (by a b)) x y)
both_other (Some a) (Some b) from to by is = cc
both_other (Some a) None from to by is = cc
both_other None y from to by is = cc

range_other : (field : cron.Field) (by : Option ℕ) (x y : List ℕ) → IsOther (range_row field by x y)
range_other field (Some n) x y is = both_other (value field x) (value field y) (λ a b. a) (λ a b. b) (λ a b. n) is
range_other field None x y is = cc

letter_other : (t : Bool) (item : cron.Item) → (item ≡ cron.no_rule → ⊥) → IsOther (when t item)
letter_other true item other is = other (let e : item ≡ cron.no_rule = cc in e)
letter_other false item other is = cc

near_other : (v : Option ℕ) → IsOther (option_map cron.near_weekday v)
near_other (Some a) is = cc
near_other None is = cc

last_other : (v : Option ℕ) → IsOther (option_map cron.last_of v)
last_other (Some a) is = cc
last_other None is = cc

nth_other : (x y : Option ℕ) → IsOther (both cron.nth_of x y)
nth_other (Some a) (Some b) is = cc
nth_other (Some a) None is = cc
nth_other None y is = cc

parts_other : (o : Option (List ℕ × List ℕ)) → IsOther (option_and_then nth_parts o)
parts_other (Some p) is = nth_other _ _ is
parts_other None is = cc

question_found : (t : Bool) (more : List (Option cron.Item)) → first_some (when t cron.no_rule ∷ more) ≡ Some cron.no_rule → (first_some more ≡ Some cron.no_rule → ⊥) → t ≡ true
question_found true more is other = refl
question_found false more is other = absurd (other is)

alone_question : (field : cron.Field) (x : List ℕ) → alone_row field x ≡ Some cron.no_rule → x ≡ codes "?"
alone_question cron.minutes x is = cc
alone_question cron.hours x is = cc
alone_question cron.day_of_month x is =
    same_is x (codes "?") (question_found (same x (codes "?")) (letter_row cron.last_day x ∷ near_row x ∷ []) is
    (λ e. nothing_left cron.no_rule (skip (near_row x) [] cron.no_rule
    (skip (letter_row cron.last_day x) (near_row x ∷ []) cron.no_rule e (letter_other (same (upper x) (codes "L")) cron.last_day (λ f. cc)))
    (near_other (option_and_then (value cron.day_of_month) (before_letter 87 x))))))
alone_question cron.month x is = cc
alone_question cron.day_of_week x is =
    same_is x (codes "?") (question_found (same x (codes "?")) (letter_row cron.saturday x ∷ last_row x ∷ nth_row x ∷ []) is
    (λ e. nothing_left cron.no_rule (skip (nth_row x) [] cron.no_rule
    (skip (last_row x) (nth_row x ∷ []) cron.no_rule
    (skip (letter_row cron.saturday x) (last_row x ∷ nth_row x ∷ []) cron.no_rule e (letter_other (same (upper x) (codes "L")) cron.saturday (λ f. cc)))
    (last_other (option_and_then (value cron.day_of_week) (before_letter 76 x))))
    (parts_other (halves (cut 35 x))))))
alone_question cron.year x is = cc

single_question : (field : cron.Field) (x : List ℕ) → first_some (every_row field (Some 1) x ∷ one_row field x ∷ alone_row field x ∷ []) ≡ Some cron.no_rule → x ≡ codes "?"
single_question field x is =
    alone_question field x (last (alone_row field x)
    (skip (one_row field x) (alone_row field x ∷ []) cron.no_rule
    (skip (every_row field (Some 1) x) (one_row field x ∷ alone_row field x ∷ []) cron.no_rule is
    (every_other (same x (codes "*")) (Some 1) (cron.least field) (cron.greatest field)))
    (one_other (value field x)))) where
      last : (o : Option cron.Item) → first_some (o ∷ []) ≡ Some cron.no_rule → o ≡ Some cron.no_rule
      last (Some o) e = e
      last None e = cc

stepped_other : (field : cron.Field) (by : Option ℕ) (x : List ℕ) → IsOther (first_some (every_row field by x ∷ on_row field by x ∷ []))
stepped_other field by x is =
    nothing_left cron.no_rule (skip (on_row field by x) [] cron.no_rule
    (skip (every_row field by x) (on_row field by x ∷ []) cron.no_rule is (every_other (same x (codes "*")) by (cron.least field) (cron.greatest field)))
    (both_other (value field x) by (λ a n. a) (λ a n. cron.greatest field) (λ a n. n)))

-- the parts of a piece that is `?`
pub question_parts : (field : cron.Field) (ps : List (List (List ℕ))) → row_of_parts field ps ≡ Some cron.no_rule → ps ≡ (codes "?" ∷ []) ∷ []
question_parts field [] is = cc
question_parts field ([] ∷ ps) is = cc
question_parts field ((x ∷ []) ∷ []) is = ap (λ t. (t ∷ []) ∷ []) (single_question field x is)
question_parts field ((x ∷ []) ∷ [] ∷ ps) is = cc
question_parts field ((x ∷ []) ∷ (n ∷ []) ∷ []) is = absurd (stepped_other field (step_in field n) x is)
question_parts field ((x ∷ []) ∷ (n ∷ []) ∷ p ∷ ps) is = cc
question_parts field ((x ∷ []) ∷ (n ∷ o ∷ ns) ∷ ps) is = cc
question_parts field ((x ∷ y ∷ []) ∷ []) is = absurd (range_other field (Some 1) x y is)
question_parts field ((x ∷ y ∷ []) ∷ [] ∷ ps) is = cc
question_parts field ((x ∷ y ∷ []) ∷ (n ∷ []) ∷ []) is = absurd (range_other field (step_in field n) x y is)
question_parts field ((x ∷ y ∷ []) ∷ (n ∷ []) ∷ p ∷ ps) is = cc
question_parts field ((x ∷ y ∷ []) ∷ (n ∷ o ∷ ns) ∷ ps) is = cc
question_parts field ((x ∷ y ∷ z ∷ zs) ∷ ps) is = cc

map_one : (xs : List (List ℕ)) (part : List (List ℕ)) → map (cut 45) xs ≡ part ∷ [] → (x : List ℕ) × (xs ≡ x ∷ []) × (cut 45 x ≡ part)
map_one [] part is = cc
map_one (x ∷ []) part is = (x, refl, cc)
map_one (x ∷ y ∷ xs) part is = cc

-- the piece that gives no rule
pub question_row_is : (field : cron.Field) (piece : List ℕ) → row field piece ≡ Some cron.no_rule → piece ≡ codes "?"
unfolding row
question_row_is field piece is =
    let one = map_one (cut 47 piece) (codes "?" ∷ []) (question_parts field (map (cut 45) (cut 47 piece)) is) in
    sym (single_part 47 piece one.0 one.1) ∙ sym (single_part 45 one.0 (codes "?") one.2)

rows_nil : (field : cron.Field) (pieces : List (List ℕ)) → AreRows field pieces [] → pieces ≡ []
rows_nil field [] are = refl
rows_nil field (p ∷ ps) are = absurd are

rows_one : (field : cron.Field) (pieces : List (List ℕ)) (item : cron.Item) → AreRows field pieces (item ∷ []) →
    (piece : List ℕ) × (pieces ≡ piece ∷ []) × (row field piece ≡ Some item)
rows_one field [] item are = absurd are
rows_one field (p ∷ ps) item are = (p, ap (λ x. p ∷ x) (rows_nil field ps are.1), are.0.is)

-- a word whose items give no rule is `?`, and no other is
pub question_is : (field : cron.Field) (word : List ℕ) (all : List cron.Item) → row field (codes "?") ≡ Some cron.no_rule → SpellsField field word all →
    same word (codes "?") ≡ give_no_rule all
question_is field word all day spelled = by_items all spelled.rows spelled.together where
  other : (item : cron.Item) (items : List cron.Item) → AreRows field (cut 44 word) (item ∷ items) → (item ≡ cron.no_rule → ⊥) → same word (codes "?") ≡ false
  other item items are apart = false_from_ne_true (same word (codes "?")) (λ e. apart (
      let question : word ≡ codes "?" = same_is word (codes "?") e in
      let at : AreRows field (codes "?" ∷ []) (item ∷ items) = subst (λ w. AreRows field (cut 44 w) (item ∷ items)) question are in
      let found : Some item ≡ Some cron.no_rule = sym at.0.is ∙ day in cc))

  by_items : (items : List cron.Item) → AreRows field (cut 44 word) items → may_stand_together items ≡ true → same word (codes "?") ≡ give_no_rule items
  by_items [] are together = absurd (some_part 44 word (rows_nil field (cut 44 word) are))
  by_items (cron.no_rule ∷ []) are together =
      let one = rows_one field (cut 44 word) cron.no_rule are in
      is_same word (codes "?") (sym (single_part 44 word one.0 one.1) ∙ question_row_is field one.0 one.2)
  by_items (cron.no_rule ∷ n ∷ more) are together = cc
  by_items (cron.values from to by ∷ more) are together = other (cron.values from to by) more are (λ e. cc)
  by_items (cron.last_day ∷ more) are together = other cron.last_day more are (λ e. cc)
  by_items (cron.saturday ∷ more) are together = other cron.saturday more are (λ e. cc)
  by_items (cron.near_weekday n ∷ more) are together = other (cron.near_weekday n) more are (λ e. cc)
  by_items (cron.last_of n ∷ more) are together = other (cron.last_of n) more are (λ e. cc)
  by_items (cron.nth_of n k ∷ more) are together = other (cron.nth_of n k) more are (λ e. cc)

-- `?` is a row of both day fields
pub question_in_month : row cron.day_of_month (codes "?") ≡ Some cron.no_rule
unfolding row
question_in_month = refl

pub question_in_week : row cron.day_of_week (codes "?") ≡ Some cron.no_rule
unfolding row
question_in_week = refl
