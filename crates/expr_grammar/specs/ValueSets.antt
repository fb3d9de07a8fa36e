-- The values of a cron's field that an expression picks, as the printer asks for them.
use Rattle.std.specs.Prelude.{◌≡◌, ℕ, ◌≤◌, ◌<◌, ◌+◌, ◌-◌, Bool, true, false, List, [], ◌∷◌, ◌++◌, map}
use Rattle.std.specs.List.{join_with_byte}
use Rattle.expressions.specs.Canonical.{begins_run, run_end, run_text, runs_from, value_count}
use Rattle.plain_words.specs.Bytes.{comma}
use Rattle.expressions.specs.Sets.{has_value, is_in_halves}
use Rattle.expressions.specs.Years.{first_year, upper_year}
use Rattle.plain_words.specs.Lists.{only_if}
use Rattle.expressions.specs.CronItems as cron
use Rattle.expr_grammar.specs.declared.value_set.ValueSet.{ValueSet}
use Rattle.expr_grammar.specs.declared.value_set.ValueSet.TheVariants as sets

-- the value is in the set
abbrev pub holds : ValueSet → ℕ → Bool
holds (sets.Values bits) v = has_value bits v
holds (sets.Years low high) y = is_in_halves low high y

-- the set has a bit for the value
abbrev pub CanHold : ValueSet → ℕ → Type 0
CanHold (sets.Values bits) v = v < 64
CanHold (sets.Years low high) y = (first_year ≤ y) × (y < upper_year + 128)

-- the set is one of the field: years have a set of their own
abbrev pub IsSetOf : cron.Field → ValueSet → Type 0
IsSetOf cron.year (sets.Values bits) = ⊥
IsSetOf cron.year (sets.Years low high) = Unit {0}
IsSetOf field (sets.Values bits) = Unit {0}
IsSetOf field (sets.Years low high) = ⊥

-- the maximal run that begins at a value of the field, if one does
abbrev pub run_at : cron.Field → (ℕ → Bool) → ℕ → List (ℕ × ℕ)
run_at field test v = only_if (begins_run test (cron.least field) v) (v, run_end test v (cron.greatest field - v))

-- there are no runs
abbrev pub are_none : List (ℕ × ℕ) → Bool
are_none [] = true
are_none (run ∷ runs) = false

-- behind what stood before stand these runs, joined by commas; whether there are none
pub record IsPrinted (before text : List ℕ) (is_first : Bool) (done : List (ℕ × ℕ)) : Type 0 where
  pub is : text ≡ before ++ join_with_byte comma (map run_text done)
  pub first : is_first ≡ are_none done

-- behind what stood before stand the maximal runs of the field's values that pass, joined by commas
abbrev pub AreRunsOf : cron.Field → (ℕ → Bool) → List ℕ → List ℕ → Type 0
AreRunsOf field test before text =
    text ≡ before ++ join_with_byte comma (map run_text (runs_from test (cron.least field) (cron.least field) (value_count field)))
