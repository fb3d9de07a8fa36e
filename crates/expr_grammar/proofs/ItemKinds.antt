-- Which items a field may have.
use Rattle.std.proofs.Common.{◌≡◌, ℕ, ◌-◌, ◌%◌, ◌<◌, ◌≤◌, Bool, true, false, cond, List, [], ◌∷◌, refl, sym, ap, ◌∙◌, arith, le-leb, eq-eqb, ne_eqb, Option, Some, None}
use Rattle.std.specs.Prelude.{map, codes, nat_le, ◌&&◌, ◌==◌}
use Rattle.std.specs.List.{list_any}
use Rattle.std.specs.Option.{option_map, option_and_then}
use Rattle.std.proofs.Math.Nat.{zero-mod}
use Rattle.std.proofs.lemmas.Bool.{leb-true, or_left, and_parts}
use Rattle.plain_words.specs.Lists.{first_some, when}
use Rattle.expressions.specs.Pieces.{cut, same, upper}
use Rattle.expressions.specs.CronItems as cron
use Rattle.expressions.specs.CronItems.{row, row_of_parts, every_row, one_row, on_row, range_row, alone_row, question_row, letter_row, near_row, last_row, nth_row, nth_parts, both, value, before_letter, halves, step_in, contains, is_in_range, is_value}
use Rattle.expressions.specs.Spelling.{AreRows}
use Rattle.expr_grammar.proofs.RowLaws.{some_part}
use Rattle.expr_grammar.proofs.SetLaws.{AllInRange, false_le}

-- the item that is there, if one is, passes
abbrev pub Allowed : (cron.Item → Bool) → Option cron.Item → Type 0
Allowed test None = Unit {0}
Allowed test (Some item) = test item ≡ true

-- values pass
abbrev pub AllowsValues : (cron.Item → Bool) → Type 0
AllowsValues test = (from to by : ℕ) → test (cron.values from to by) ≡ true

first_allowed : (test : cron.Item → Bool) (x : Option cron.Item) (xs : List (Option cron.Item)) → Allowed test x → Allowed test (first_some xs) → Allowed test (first_some (x ∷ xs))
first_allowed test None xs here more = more
first_allowed test (Some x) xs here more = here

every_allowed : (test : cron.Item → Bool) → AllowsValues test → (here : Bool) (by : Option ℕ) (from to : ℕ) → Allowed test (cond here (option_map (cron.values from to) by) None)
every_allowed test values true (Some n) from to = values from to n
every_allowed test values true None from to = tt
every_allowed test values false by from to = tt

one_allowed : (test : cron.Item → Bool) → AllowsValues test → (v : Option ℕ) → Allowed test (option_map (λ a. cron.values a a 1) v)
one_allowed test values (Some a) = values a a 1
one_allowed test values None = tt

both_allowed : (test : cron.Item → Bool) → AllowsValues test → (x y : Option ℕ) (from to by : ℕ → ℕ → ℕ) →
    Allowed test (both (λ a b. cron.values (from a b) (to a b) (by a b)) x y)
both_allowed test values (Some a) (Some b) from to by = values (from a b) (to a b) (by a b)
both_allowed test values (Some a) None from to by = tt
both_allowed test values None y from to by = tt

range_allowed : (test : cron.Item → Bool) → AllowsValues test → (field : cron.Field) (by : Option ℕ) (x y : List ℕ) → Allowed test (range_row field by x y)
range_allowed test values field (Some n) x y = both_allowed test values (value field x) (value field y) (λ a b. a) (λ a b. b) (λ a b. n)
range_allowed test values field None x y = tt

single_allowed : (test : cron.Item → Bool) → AllowsValues test → (field : cron.Field) (x : List ℕ) → Allowed test (alone_row field x) →
    Allowed test (first_some (every_row field (Some 1) x ∷ one_row field x ∷ alone_row field x ∷ []))
single_allowed test values field x alone =
    first_allowed test (every_row field (Some 1) x) (one_row field x ∷ alone_row field x ∷ [])
    (every_allowed test values (same x (codes "*")) (Some 1) (cron.least field) (cron.greatest field))
    (first_allowed test (one_row field x) (alone_row field x ∷ []) (one_allowed test values (value field x))
    (first_allowed test (alone_row field x) [] alone tt))

stepped_allowed : (test : cron.Item → Bool) → AllowsValues test → (field : cron.Field) (by : Option ℕ) (x : List ℕ) →
    Allowed test (first_some (every_row field by x ∷ on_row field by x ∷ []))
stepped_allowed test values field by x =
    first_allowed test (every_row field by x) (on_row field by x ∷ [])
    (every_allowed test values (same x (codes "*")) by (cron.least field) (cron.greatest field))
    (first_allowed test (on_row field by x) [] (both_allowed test values (value field x) by (λ a n. a) (λ a n. cron.greatest field) (λ a n. n)) tt)

parts_allowed : (test : cron.Item → Bool) → AllowsValues test → (field : cron.Field) → ((x : List ℕ) → Allowed test (alone_row field x)) →
    (parts : List (List (List ℕ))) → Allowed test (row_of_parts field parts)
parts_allowed test values field alone [] = tt
parts_allowed test values field alone ([] ∷ ps) = tt
parts_allowed test values field alone ((x ∷ []) ∷ []) = single_allowed test values field x (alone x)
parts_allowed test values field alone ((x ∷ []) ∷ [] ∷ ps) = tt
parts_allowed test values field alone ((x ∷ []) ∷ (n ∷ []) ∷ []) = stepped_allowed test values field (step_in field n) x
parts_allowed test values field alone ((x ∷ []) ∷ (n ∷ []) ∷ p ∷ ps) = tt
parts_allowed test values field alone ((x ∷ []) ∷ (n ∷ o ∷ ns) ∷ ps) = tt
parts_allowed test values field alone ((x ∷ y ∷ []) ∷ []) = range_allowed test values field (Some 1) x y
parts_allowed test values field alone ((x ∷ y ∷ []) ∷ [] ∷ ps) = tt
parts_allowed test values field alone ((x ∷ y ∷ []) ∷ (n ∷ []) ∷ []) = range_allowed test values field (step_in field n) x y
parts_allowed test values field alone ((x ∷ y ∷ []) ∷ (n ∷ []) ∷ p ∷ ps) = tt
parts_allowed test values field alone ((x ∷ y ∷ []) ∷ (n ∷ o ∷ ns) ∷ ps) = tt
parts_allowed test values field alone ((x ∷ y ∷ z ∷ zs) ∷ ps) = tt

row_allowed : (test : cron.Item → Bool) → AllowsValues test → (field : cron.Field) → ((x : List ℕ) → Allowed test (alone_row field x)) →
    (piece : List ℕ) → Allowed test (row field piece)
unfolding row
row_allowed test values field alone piece = parts_allowed test values field alone (map (cut 45) (cut 47 piece))

-- the item is one of values
abbrev pub in_plain : cron.Item → Bool
in_plain (cron.values from to by) = true
in_plain item = false

-- the item is one of day of month
abbrev pub in_month : cron.Item → Bool
in_month cron.saturday = false
in_month (cron.last_of n) = false
in_month (cron.nth_of n k) = false
in_month item = true

-- the item is one of day of week
abbrev pub in_week : cron.Item → Bool
in_week cron.last_day = false
in_week (cron.near_weekday n) = false
in_week item = true

when_allowed : (test : cron.Item → Bool) (here : Bool) (item : cron.Item) → test item ≡ true → Allowed test (when here item)
when_allowed test true item is = is
when_allowed test false item is = tt

map_allowed : (test : cron.Item → Bool) (f : ℕ → cron.Item) (v : Option ℕ) → ((n : ℕ) → test (f n) ≡ true) → Allowed test (option_map f v)
map_allowed test f (Some n) is = is n
map_allowed test f None is = tt

nth_allowed : (x y : Option ℕ) → Allowed in_week (both cron.nth_of x y)
nth_allowed (Some a) (Some b) = refl
nth_allowed (Some a) None = tt
nth_allowed None y = tt

halves_allowed : (o : Option (List ℕ × List ℕ)) → Allowed in_week (option_and_then nth_parts o)
halves_allowed (Some p) = nth_allowed _ _
halves_allowed None = tt

month_alone : (x : List ℕ) → Allowed in_month (alone_row cron.day_of_month x)
month_alone x =
    first_allowed in_month (question_row x) (letter_row cron.last_day x ∷ near_row x ∷ []) (when_allowed in_month (same x (codes "?")) cron.no_rule refl)
    (first_allowed in_month (letter_row cron.last_day x) (near_row x ∷ []) (when_allowed in_month (same (upper x) (codes "L")) cron.last_day refl)
    (first_allowed in_month (near_row x) [] (map_allowed in_month cron.near_weekday (option_and_then (value cron.day_of_month) (before_letter 87 x)) (λ n. refl)) tt))

week_alone : (x : List ℕ) → Allowed in_week (alone_row cron.day_of_week x)
week_alone x =
    first_allowed in_week (question_row x) (letter_row cron.saturday x ∷ last_row x ∷ nth_row x ∷ []) (when_allowed in_week (same x (codes "?")) cron.no_rule refl)
    (first_allowed in_week (letter_row cron.saturday x) (last_row x ∷ nth_row x ∷ []) (when_allowed in_week (same (upper x) (codes "L")) cron.saturday refl)
    (first_allowed in_week (last_row x) (nth_row x ∷ []) (map_allowed in_week cron.last_of (option_and_then (value cron.day_of_week) (before_letter 76 x)) (λ n. refl))
    (first_allowed in_week (nth_row x) [] (halves_allowed (halves (cut 35 x))) tt)))

-- the items of a field
abbrev pub in_field : cron.Field → cron.Item → Bool
in_field cron.minutes = in_plain
in_field cron.hours = in_plain
in_field cron.day_of_month = in_month
in_field cron.month = in_plain
in_field cron.day_of_week = in_week
in_field cron.year = in_plain

row_in_field : (field : cron.Field) (piece : List ℕ) → Allowed (in_field field) (row field piece)
row_in_field cron.minutes piece = row_allowed in_plain (λ from to by. refl) cron.minutes (λ x. tt) piece
row_in_field cron.hours piece = row_allowed in_plain (λ from to by. refl) cron.hours (λ x. tt) piece
row_in_field cron.day_of_month piece = row_allowed in_month (λ from to by. refl) cron.day_of_month month_alone piece
row_in_field cron.month piece = row_allowed in_plain (λ from to by. refl) cron.month (λ x. tt) piece
row_in_field cron.day_of_week piece = row_allowed in_week (λ from to by. refl) cron.day_of_week week_alone piece
row_in_field cron.year piece = row_allowed in_plain (λ from to by. refl) cron.year (λ x. tt) piece

allowed_some : (test : cron.Item → Bool) (o : Option cron.Item) (item : cron.Item) → Allowed test o → o ≡ Some item → test item ≡ true
allowed_some test None item allowed is = cc
allowed_some test (Some x) item allowed is = let same_item : x ≡ item = cc in ap test (sym same_item) ∙ allowed

-- the first item of a field is one of its kinds
pub first_in_field : (field : cron.Field) (pieces : List (List ℕ)) (item : cron.Item) (more : List cron.Item) → AreRows field pieces (item ∷ more) → in_field field item ≡ true
first_in_field field [] item more are = absurd are
first_in_field field (p ∷ ps) item more are = allowed_some (in_field field) (row field p) item (row_in_field field p) are.0.is

-- a word has an item
pub some_item : (field : cron.Field) (word : List ℕ) → AreRows field (cut 44 word) [] → ⊥
some_item field word are = by_parts (cut 44 word) (some_part 44 word) are where
  by_parts : (pieces : List (List ℕ)) → (pieces ≡ [] → ⊥) → AreRows field pieces [] → ⊥
  by_parts [] some rows = some refl
  by_parts (p ∷ ps) some rows = absurd rows

-- a value of the field is one of the items
pub record HasValue (field : cron.Field) (all : List cron.Item) : Type 0 where
  pub value : ℕ
  pub low : cron.least field ≤ value
  pub high : value ≤ cron.greatest field
  pub has : list_any (contains value) all ≡ true

pub values_have : (field : cron.Field) (from to by : ℕ) (more : List cron.Item) → is_in_range field (cron.values from to by) ≡ true → HasValue field (cron.values from to by ∷ more)
values_have field from to by more in_range =
    let bounds = (and_parts (is_value field from && is_value field to && nat_le from to) (nat_le 1 by) in_range).0 in
    let ends = and_parts (is_value field from && is_value field to) (nat_le from to) bounds in
    let first = and_parts (nat_le (cron.least field) from) (nat_le from (cron.greatest field)) (and_parts (is_value field from) (is_value field to) ends.0).0 in
    let here : nat_le from from ≡ true = le-leb _ _ (omega arith) in
    let nothing : from - from ≡ 0 = omega arith in
    let step : (((from - from) % by) == 0) ≡ true = eq-eqb _ _ (ap (λ n. n % by) nothing ∙ zero-mod by) in
    record {
      value = from;
      low = leb-true _ _ first.0;
      high = leb-true _ _ first.1;
      has = or_left (contains from (cron.values from to by)) (list_any (contains from) more) (rw (here, ends.1, step) refl);
    }

pub saturday_has : (more : List cron.Item) → HasValue cron.day_of_week (cron.saturday ∷ more)
saturday_has more = record { value = 7; low = omega arith; high = omega arith; has = refl }

-- the items of a field without rules of days have a value
pub plain_has : (field : cron.Field) (word : List ℕ) (all : List cron.Item) → in_field field ≡ in_plain → AreRows field (cut 44 word) all → AllInRange field all → HasValue field all
plain_has field word [] plain are in_range = absurd (some_item field word are)
plain_has field word (item ∷ more) plain are in_range = by_item item (ap (λ f. f item) (sym plain) ∙ first_in_field field (cut 44 word) item more are) in_range.0 where
  by_item : (i : cron.Item) → in_plain i ≡ true → is_in_range field i ≡ true → HasValue field (i ∷ more)
  by_item (cron.values from to by) is fits = values_have field from to by more fits
  by_item cron.no_rule is fits = cc
  by_item cron.last_day is fits = cc
  by_item cron.saturday is fits = cc
  by_item (cron.near_weekday n) is fits = cc
  by_item (cron.last_of n) is fits = cc
  by_item (cron.nth_of n k) is fits = cc

-- no value before the least is one of items in range
contains_before : (field : cron.Field) (item : cron.Item) (v : ℕ) → cron.least field ≤ 7 → is_in_range field item ≡ true → v < cron.least field → contains v item ≡ false
contains_before field (cron.values from to by) v week in_range before =
    let bounds = (and_parts (is_value field from && is_value field to && nat_le from to) (nat_le 1 by) in_range).0 in
    let ends = (and_parts (is_value field from && is_value field to) (nat_le from to) bounds).0 in
    let first : cron.least field ≤ from = leb-true _ _ (and_parts (nat_le (cron.least field) from) (nat_le from (cron.greatest field)) (and_parts (is_value field from) (is_value field to) ends).0).0 in
    let off : nat_le from v ≡ false = false_le from v (omega arith) in
    rw off refl
contains_before field cron.no_rule v week in_range before = refl
contains_before field cron.last_day v week in_range before = refl
contains_before field cron.saturday v week in_range before = ne_eqb v 7 (λ e. omega arith)
contains_before field (cron.near_weekday n) v week in_range before = refl
contains_before field (cron.last_of n) v week in_range before = refl
contains_before field (cron.nth_of n k) v week in_range before = refl

pub any_before : (field : cron.Field) (all : List cron.Item) (v : ℕ) → cron.least field ≤ 7 → AllInRange field all → v < cron.least field → list_any (contains v) all ≡ false
any_before field [] v week in_range before = refl
any_before field (item ∷ all) v week in_range before =
    rw (contains_before field item v week in_range.0 before) (any_before field all v week in_range.1 before)
