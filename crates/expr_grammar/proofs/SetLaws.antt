-- The sets of items in range: their bits, and the first item.
use Rattle.std.proofs.Common.{◌≡◌, ℕ, zero, suc, ◌+◌, ◌-◌, ◌^◌, ◌<◌, ◌≤◌, Bool, true, false, List, [], ◌∷◌, refl, ap, ◌∙◌, arith, ne_eqb, Option, Some, None, lit<}
use Rattle.std.specs.Prelude.{◌&&◌, nat_le, ◌==◌, ◌%◌}
use Rattle.std.specs.List.{list_any}
use Rattle.std.specs.Option.{option_map}
use Rattle.std.proofs.Math.Nat.{pow-le-pow_right}
use Rattle.std.proofs.lemmas.Bool.{leb-true, and_parts}
use Rattle.plain_words.specs.Lists.{head}
use Rattle.expressions.specs.CronItems as cron
use Rattle.expressions.specs.CronItems.{bits_below, contains, is_in_range, is_value, greatest, least, set_of, years_of}
use Rattle.expressions.specs.Spelling.{AreRows}
use Rattle.expr_grammar.specs.declared.item.Item.{Item}
use Rattle.expr_grammar.specs.declared.item.Item.TheVariants as items
use Rattle.expr_grammar.specs.declared.items.Items.{Items}
use Rattle.expr_grammar.specs.Items.{IsRead, IsSmall, HasSmallRule, item_of, first_value}
use Rattle.expr_grammar.proofs.Bits.{bits_below-lt, bits_below_same}

-- each item is in range
abbrev pub AllInRange : cron.Field → List cron.Item → Type 0
AllInRange field [] = Unit {0}
AllInRange field (item ∷ all) = (is_in_range field item ≡ true) × AllInRange field all

pub rows_in_range : (field : cron.Field) (pieces : List (List ℕ)) (all : List cron.Item) → AreRows field pieces all → AllInRange field all
rows_in_range field [] [] are = tt
rows_in_range field [] (i ∷ is) are = absurd are
rows_in_range field (p ∷ ps) [] are = absurd are
rows_in_range field (p ∷ ps) (i ∷ is) are = (are.0.in_range, rows_in_range field ps is are.1)

pub value_high : (field : cron.Field) (v : ℕ) → is_value field v ≡ true → v ≤ greatest field
value_high field v is = leb-true _ _ (and_parts (nat_le (least field) v) (nat_le v (greatest field)) is).1

pub false_le : (a b : ℕ) → b < a → nat_le a b ≡ false
false_le a b less = by_test (nat_le a b) refl where
  by_test : (t : Bool) → nat_le a b ≡ t → nat_le a b ≡ false
  by_test true is = let le : a ≤ b = leb-true a b is in absurd (omega arith)
  by_test false is = is

and_false : (a b : Bool) → (a && false && b) ≡ false
and_false true b = refl
and_false false b = refl

contains_past : (field : cron.Field) (item : cron.Item) (v : ℕ) → 7 ≤ greatest field → is_in_range field item ≡ true → greatest field < v → contains v item ≡ false
contains_past field (cron.values from to by) v week in_range past =
    let bounds = (and_parts (is_value field from && is_value field to && nat_le from to) (nat_le 1 by) in_range).0 in
    let ends = (and_parts (is_value field from && is_value field to) (nat_le from to) bounds).0 in
    let high : to ≤ greatest field = value_high field to (and_parts (is_value field from) (is_value field to) ends).1 in
    let off : nat_le v to ≡ false = false_le v to (omega arith) in
    rw off (and_false (nat_le from v) (((v - from) % by) == 0))
contains_past field cron.no_rule v week in_range past = refl
contains_past field cron.last_day v week in_range past = refl
contains_past field cron.saturday v week in_range past = ne_eqb v 7 (λ e. omega arith)
contains_past field (cron.near_weekday n) v week in_range past = refl
contains_past field (cron.last_of n) v week in_range past = refl
contains_past field (cron.nth_of n k) v week in_range past = refl

-- no value past the greatest is one of items in range
pub any_past : (field : cron.Field) (all : List cron.Item) (v : ℕ) → 7 ≤ greatest field → AllInRange field all → greatest field < v → list_any (contains v) all ≡ false
any_past field [] v week in_range past = refl
any_past field (item ∷ all) v week in_range past =
    rw (contains_past field item v week in_range.0 past) (any_past field all v week in_range.1 past)

bits_below_cut : (test : ℕ → Bool) (m d : ℕ) → ((i : ℕ) → m ≤ i → test i ≡ false) → bits_below test (d + m) ≡ bits_below test m
bits_below_cut test m zero off = ap (bits_below test) (plain m) where
  plain : (k : ℕ) → 0 + k ≡ k
  plain k = omega arith
bits_below_cut test m (suc d) off =
    ap (bits_below test) (next d m)
    ∙ rw (off (d + m) (omega arith)) (more (bits_below test (d + m)) ∙ bits_below_cut test m d off) where
      next : (k l : ℕ) → suc k + l ≡ suc (k + l)
      next k l = omega arith

      more : (k : ℕ) → k + 0 ≡ k
      more k = omega arith

-- the bits from 0 on of items in range are the field's set
pub set_is : (field : cron.Field) (all : List cron.Item) → 7 ≤ greatest field → greatest field < 128 → AllInRange field all → years_of 0 all ≡ set_of field all
unfolding years_of set_of
set_is field all week room in_range =
    bits_below_same (λ i. list_any (contains (0 + i)) all) (λ v. list_any (contains v) all) 128 (λ i within. ap (λ v. list_any (contains v) all) (plain i))
    ∙ ap (bits_below (λ v. list_any (contains v) all)) (parts (greatest field) room)
    ∙ bits_below_cut (λ v. list_any (contains v) all) (greatest field + 1) (127 - greatest field) (λ i past. any_past field all i week in_range (omega arith)) where
      plain : (k : ℕ) → 0 + k ≡ k
      plain k = omega arith

      parts : (g : ℕ) → g < 128 → 128 ≡ 127 - g + (g + 1)
      parts g r = omega arith

pub set_small : (field : cron.Field) (all : List cron.Item) → set_of field all < 2 ^ (greatest field + 1)
unfolding set_of
set_small field all = bits_below-lt (λ v. list_any (contains v) all) (greatest field + 1)

-- what is kept of a field below the years
pub record KeptSet (field : cron.Field) (kept : Items) (all : List cron.Item) : Type 0 where
  pub is : kept.low ≡ set_of field all
  pub small : kept.low < 2 ^ (greatest field + 1)

pub kept_set : (field : cron.Field) (word : List ℕ) (kept : Items) (read : IsRead field word kept) → first_value field ≡ 0 → 7 ≤ greatest field → greatest field < 128 →
    KeptSet field kept read.all
kept_set field word kept read zero_first week room =
    let in_range = rows_in_range field _ read.all read.spelled.rows in
    let is : kept.low ≡ set_of field read.all = read.summary.low ∙ ap (λ f. years_of f read.all) zero_first ∙ set_is field read.all week room in_range in
    record { is = is; small = rw is (set_small field read.all) }

small_item : (field : cron.Field) (item : Item) → greatest field < 256 → is_in_range field (item_of item) ≡ true → IsSmall (Some item)
small_item field (items.Values from to by) room is = tt
small_item field items.NoRule room is = tt
small_item field items.LastDay room is = tt
small_item field items.Saturday room is = tt
small_item field (items.NearWeekday n) room is = let high : n ≤ greatest field = value_high field n is in omega arith
small_item field (items.LastOf n) room is = let high : n ≤ greatest field = value_high field n is in omega arith
small_item field (items.Nth n k) room is =
    let parts = and_parts (is_value field n && nat_le 1 k) (nat_le k 5) is in
    let high : n ≤ greatest field = value_high field n (and_parts (is_value field n) (nat_le 1 k) parts.0).0 in
    let few : k ≤ 5 = leb-true k 5 parts.1 in
    (omega arith, omega arith)

pub small_first : (field : cron.Field) (first : Option Item) (all : List cron.Item) → greatest field < 256 → option_map item_of first ≡ head all → AllInRange field all → IsSmall first
small_first field None all room is in_range = tt
small_first field (Some item) [] room is in_range = cc
small_first field (Some item) (x ∷ all) room is in_range =
    let same : item_of item ≡ x = cc in
    small_item field item room (ap (is_in_range field) same ∙ in_range.0)

pub small_rule : (field : cron.Field) (bits : ℕ) (word : List ℕ) (kept : Items) (read : IsRead field word kept) → first_value field ≡ 0 → 7 ≤ greatest field →
    greatest field < 128 → greatest field + 1 ≤ bits → HasSmallRule bits kept
small_rule field bits word kept read zero_first week room fits =
    let set = kept_set field word kept read zero_first week room in
    let wide : 2 ^ (greatest field + 1) ≤ 2 ^ bits = pow-le-pow_right {n = 2} (lit< tt) {i = greatest field + 1} {j = bits} fits in
    let small : kept.low < 2 ^ (greatest field + 1) = set.small in
    record {
      set = omega arith;
      first = small_first field kept.first read.all (omega arith) read.summary.first (rows_in_range field _ read.all read.spelled.rows);
    }
