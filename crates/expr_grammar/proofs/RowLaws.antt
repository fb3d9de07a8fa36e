-- Lemmas on the table of items, by how a piece is cut.
use Rattle.std.proofs.Common.{◌≡◌, ℕ, Bool, true, false, List, [], ◌∷◌, refl, sym, ap, ◌∙◌, cond, Option, Some, None, ne_eqb}
use Rattle.std.specs.Prelude.{◌==◌, codes}
use Rattle.std.specs.List.{join_with_byte, list_all}
use Rattle.std.proofs.lemmas.Bool.{eqb-true, false≢true, and_parts}
use Rattle.expressions.specs.Pieces.{cut, parted, is_digit, is_number, same}
use Rattle.plain_words.specs.Lists.{first_some}
use Rattle.expr_grammar.specs.Items.{stepped_row}
use Rattle.expressions.specs.CronItems as cron
use Rattle.expressions.specs.CronItems.{row_of_parts, step_in, step}
use Rattle.expr_grammar.proofs.Cuts.{parts_of}
use Rattle.expr_grammar.proofs.Digits.{number_digits}

join_at : (c b : ℕ) (bs : List ℕ) (here : Bool) (parts : List (List ℕ)) → (b == c) ≡ here → join_with_byte c parts ≡ bs → (parts ≡ [] → ⊥) →
    join_with_byte c (parted here b parts) ≡ b ∷ bs
join_at c b bs true [] is joined some = absurd (some refl)
join_at c b bs true (part ∷ parts) is joined some = ap (λ x. c ∷ x) joined ∙ ap (λ x. x ∷ bs) (sym (eqb-true b c is))
join_at c b bs false [] is joined some = absurd (some refl)
join_at c b bs false (part ∷ []) is joined some = ap (λ x. b ∷ x) joined
join_at c b bs false (part ∷ next ∷ parts) is joined some = ap (λ x. b ∷ x) joined

pub some_part : (c : ℕ) (text : List ℕ) → cut c text ≡ [] → ⊥
some_part c text none = let p = parts_of c text in absurd (let e : _ ∷ p.more ≡ [] = sym p.all ∙ none in cc)

-- the parts joined give the text back
pub join-cut : (c : ℕ) (text : List ℕ) → join_with_byte c (cut c text) ≡ text
join-cut c [] = refl
join-cut c (b ∷ bs) = join_at c b bs (b == c) (cut c bs) refl (join-cut c bs) (some_part c bs)

-- a single part is the text
pub single_part : (c : ℕ) (text part : List ℕ) → cut c text ≡ part ∷ [] → part ≡ text
single_part c text part is = ap (join_with_byte c) (sym is) ∙ join-cut c text

-- a byte is not among digits
pub cut_digits : (c : ℕ) (text : List ℕ) → is_digit c ≡ false → list_all is_digit text ≡ true → cut c text ≡ text ∷ []
cut_digits c [] bare digits = refl
cut_digits c (b ∷ bs) bare digits =
    let both_digits = and_parts (is_digit b) (list_all is_digit bs) digits in
    let other : (b == c) ≡ false = ne_eqb b c (λ e. absurd (false≢true (sym bare ∙ ap is_digit (sym e) ∙ both_digits.0))) in
    rw (other, cut_digits c bs bare both_digits.1) refl

stepless : (t : Bool) (o : Option ℕ) (f : ℕ → ℕ → cron.Item) → first_some (cond t None None ∷ cron.both f o None ∷ []) ≡ None
stepless true (Some v) f = refl
stepless true None f = refl
stepless false (Some v) f = refl
stepless false None f = refl

-- without a step there is no row
pub no_row_stepless : (field : cron.Field) (p q : List (List ℕ)) → ((x : List ℕ) → q ≡ x ∷ [] → step_in field x ≡ None) → row_of_parts field (p ∷ q ∷ []) ≡ None
no_row_stepless field [] q none = refl
no_row_stepless field (x ∷ []) [] none = refl
no_row_stepless field (x ∷ []) (n ∷ []) none = rw (none n refl) (stepless (same x (codes "*")) (cron.value field x) (λ a k. cron.values a (cron.greatest field) k))
no_row_stepless field (x ∷ []) (n ∷ o ∷ ns) none = refl
no_row_stepless field (x ∷ y ∷ []) [] none = refl
no_row_stepless field (x ∷ y ∷ []) (n ∷ []) none = rw (none n refl) refl
no_row_stepless field (x ∷ y ∷ []) (n ∷ o ∷ ns) none = refl
no_row_stepless field (x ∷ y ∷ z ∷ zs) q none = refl

no_step : (field : cron.Field) (by : List ℕ) (k : ℕ) → is_number 1 3 by ≡ false → step_in field by ≡ Some k → ⊥
no_step cron.minutes by k is some = absurd (let e : ◌≡◌ {A = Option ℕ} None (Some k) = rw is at some in cc)
no_step cron.hours by k is some = absurd (let e : ◌≡◌ {A = Option ℕ} None (Some k) = rw is at some in cc)
no_step cron.day_of_month by k is some = absurd (let e : ◌≡◌ {A = Option ℕ} None (Some k) = rw is at some in cc)
no_step cron.month by k is some = absurd (let e : ◌≡◌ {A = Option ℕ} None (Some k) = rw is at some in cc)
no_step cron.day_of_week by k is some = absurd (let e : ◌≡◌ {A = Option ℕ} None (Some k) = some in cc)
no_step cron.year by k is some = absurd (let e : ◌≡◌ {A = Option ℕ} None (Some k) = rw is at some in cc)

step_number : (field : cron.Field) (by : List ℕ) (k : ℕ) → step_in field by ≡ Some k → is_number 1 3 by ≡ true
step_number field by k some = by_test (is_number 1 3 by) refl where
  by_test : (test : Bool) → is_number 1 3 by ≡ test → is_number 1 3 by ≡ true
  by_test true is = is
  by_test false is = absurd (no_step field by k is some)

-- the parts of a step are the step
pub step_parts : (field : cron.Field) (by : List ℕ) (k : ℕ) → step_in field by ≡ Some k → cut 45 by ≡ by ∷ []
step_parts field by k some = cut_digits 45 by refl (number_digits 1 3 by (step_number field by k some))

pub stepped_one : (field : cron.Field) (base by : List ℕ) (k : ℕ) → step_in field by ≡ Some k → cut 45 base ≡ base ∷ [] →
    row_of_parts field (cut 45 base ∷ cut 45 by ∷ []) ≡ stepped_row field k base
stepped_one field base by k some one = rw (one, step_parts field by k some, some) refl

pub stepped_two : (field : cron.Field) (base by from to : List ℕ) (k : ℕ) → step_in field by ≡ Some k → cut 45 base ≡ from ∷ to ∷ [] →
    row_of_parts field (cut 45 base ∷ cut 45 by ∷ []) ≡ cron.range_row field (Some k) from to
stepped_two field base by from to k some two = rw (two, step_parts field by k some, some) refl

pub stepped_none : (field : cron.Field) (base by : List ℕ) → step_in field by ≡ None → row_of_parts field (cut 45 base ∷ cut 45 by ∷ []) ≡ None
stepped_none field base by none =
    no_row_stepless field (cut 45 base) (cut 45 by) (λ x is. ap (step_in field) (single_part 45 by x is) ∙ none)
