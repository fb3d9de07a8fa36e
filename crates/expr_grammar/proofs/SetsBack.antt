-- The sets of items are the sets of what is printed of them.
use Rattle.std.proofs.Common.{◌≡◌, ℕ, ◌+◌, ◌-◌, ◌<◌, ◌≤◌, Bool, true, false, List, ◌∷◌, refl, sym, ap, ◌∙◌, arith, lit≤, ◌⊎◌, inl, inr}
use Rattle.std.specs.Prelude.{map, nat_lt, ◌==◌}
use Rattle.std.specs.List.{list_any}
use Rattle.std.proofs.lemmas.Bool.{cases_lt, ltb-true, ltb-false}
use Rattle.expressions.specs.Canonical.{set_text}
use Rattle.expressions.specs.Sets.{has_value, has_year}
use Rattle.expressions.specs.declared.expression.CronSets.{CronSets}
use Rattle.expressions.specs.CronItems as cron
use Rattle.expressions.specs.CronItems.{bits_below, contains, set_of, years_of}
use Rattle.expr_grammar.proofs.Bits.{bit, bit_at-below, bits_below_same}
use Rattle.expr_grammar.proofs.ItemKinds.{HasValue, any_before}
use Rattle.expr_grammar.proofs.RunLaws.{run_item}
use Rattle.expr_grammar.proofs.RunRows.{ReadsBack, set_back}
use Rattle.expr_grammar.proofs.SetLaws.{AllInRange, any_past}

bit_is : (b : Bool) → (bit b == 1) ≡ b
bit_is true = refl
bit_is false = refl

-- the value is one of the items
abbrev pub any_of : ℕ → List cron.Item → Bool
any_of v all = list_any (contains v) all

-- a set has the values of its items
set_has : (field : cron.Field) (all : List cron.Item) (v : ℕ) → v ≤ cron.greatest field → has_value (set_of field all) v ≡ any_of v all
unfolding set_of
set_has field all v high =
    ap (λ n. n == 1) (bit_at-below (λ w. any_of w all) (cron.greatest field + 1) v (omega arith)) ∙ bit_is (any_of v all)

year_has : (first : ℕ) (all : List cron.Item) (y : ℕ) → first ≤ y → y < first + 128 → has_value (years_of first all) (y - first) ≡ any_of y all
unfolding years_of
year_has first all y low high =
    let back : first + (y - first) ≡ y = omega arith in
    ap (λ n. n == 1) (bit_at-below (λ i. any_of (first + i) all) 128 (y - first) (omega arith)) ∙ bit_is (any_of (first + (y - first)) all)
    ∙ ap (λ w. any_of w all) back

-- the set of a field and its text
pub record FieldBack (field : cron.Field) (set : ℕ) : Type 0 where
  pub back : ReadsBack field (has_value set) (set_text field (has_value set))
  pub same : set ≡ set_of field (map run_item (back.first ∷ back.more))

-- the set of items is the set of what is printed of it
pub field_back : (field : cron.Field) (set : ℕ) (all : List cron.Item) → set ≡ set_of field all → cron.least field ≤ 7 → AllInRange field all → HasValue field all →
    FieldBack field set
unfolding set_of
field_back field set all is week in_range value = record { back = back; same = is ∙ sym same_set } where
  agrees : (v : ℕ) → v ≤ cron.greatest field → has_value set v ≡ any_of v all
  agrees v high = ap (λ s. has_value s v) is ∙ set_has field all v high

  back : ReadsBack field (has_value set) (set_text field (has_value set))
  back = set_back field (has_value set) value.value value.low value.high (agrees value.value value.high ∙ value.has)

  same_value : (v : ℕ) → v ≤ cron.greatest field → (v < cron.least field) ⊎ (cron.least field ≤ v) → any_of v (map run_item (back.first ∷ back.more)) ≡ any_of v all
  same_value v high (inl before) =
      any_before field (map run_item (back.first ∷ back.more)) v week back.in_range before ∙ sym (any_before field all v week in_range before)
  same_value v high (inr low) = back.has v low high ∙ agrees v high

  same_set : set_of field (map run_item (back.first ∷ back.more)) ≡ set_of field all
  same_set =
      bits_below_same (λ v. any_of v (map run_item (back.first ∷ back.more))) (λ v. any_of v all) (cron.greatest field + 1)
      (λ v within. same_value v (omega arith) (cases_lt v (cron.least field)))

low_half : (y : ℕ) → y < 2098 → y < 1970 + 128
low_half y below = omega arith

high_half : (y : ℕ) → y ≤ 2199 → y < 2098 + 128
high_half y high = omega arith

not_before : (first i : ℕ) → 1970 ≤ first → 1970 ≤ first + i
not_before first i low = omega arith

-- the years and their text
pub record YearsBack (sets : CronSets) : Type 0 where
  pub back : ReadsBack cron.year (has_year sets) (set_text cron.year (has_year sets))
  pub low : sets.years_low ≡ years_of 1970 (map run_item (back.first ∷ back.more))
  pub high : sets.years_high ≡ years_of 2098 (map run_item (back.first ∷ back.more))

pub years_back : (sets : CronSets) (all : List cron.Item) → sets.years_low ≡ years_of 1970 all → sets.years_high ≡ years_of 2098 all →
    AllInRange cron.year all → HasValue cron.year all → YearsBack sets
unfolding years_of
years_back sets all is_low is_high in_range value = record {
  back = back;
  low = is_low ∙ sym (same_years 1970 (lit≤ tt));
  high = is_high ∙ sym (same_years 2098 (lit≤ tt));
} where
  by_half : (y : ℕ) → 1970 ≤ y → y ≤ 2199 → (half : Bool) → nat_lt y 2098 ≡ half → has_year sets y ≡ any_of y all
  by_half y low high true is =
      let below : y < 2098 = ltb-true _ _ is in
      (rw is refl) ∙ ap (λ s. has_value s (y - 1970)) is_low ∙ year_has 1970 all y low (low_half y below)
  by_half y low high false is =
      let above : 2098 ≤ y = ltb-false _ _ is in
      (rw is refl) ∙ ap (λ s. has_value s (y - 2098)) is_high ∙ year_has 2098 all y above (high_half y high)

  agrees : (y : ℕ) → 1970 ≤ y → y ≤ 2199 → has_year sets y ≡ any_of y all
  agrees y low high = by_half y low high (nat_lt y 2098) refl

  back : ReadsBack cron.year (has_year sets) (set_text cron.year (has_year sets))
  back = set_back cron.year (has_year sets) value.value value.low value.high (agrees value.value value.low value.high ∙ value.has)

  same_value : (y : ℕ) → 1970 ≤ y → (2199 < y) ⊎ (y ≤ 2199) → any_of y (map run_item (back.first ∷ back.more)) ≡ any_of y all
  same_value y low (inl past) =
      any_past cron.year (map run_item (back.first ∷ back.more)) y (lit≤ tt) back.in_range past ∙ sym (any_past cron.year all y (lit≤ tt) in_range past)
  same_value y low (inr high) = back.has y low high ∙ agrees y low high

  same_years : (first : ℕ) → 1970 ≤ first → years_of first (map run_item (back.first ∷ back.more)) ≡ years_of first all
  same_years first from =
      bits_below_same (λ i. any_of (first + i) (map run_item (back.first ∷ back.more))) (λ i. any_of (first + i) all) 128
      (λ i within. same_value (first + i) (not_before first i from) (cases_lt 2199 (first + i)))
