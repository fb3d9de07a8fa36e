-- What the map of places shows, and what a changed place leaves.
use Rattle.std.specs.Prelude.{◌≡◌, ℕ, List, true, Some, map, if◌then◌else◌}
use Rattle.std.specs.String.{string_bytes}
use Rattle.std.specs.declared.string.String.{String}
use Rattle.std.specs.BTreeMap.{BTreeMap, get_by_text}
use Rattle.plain_words.specs.Lists.{same_text}
use Rattle.zone_shelf.specs.Places.{Places, Placed, kept_on, is_ready_on}

-- each name by its bytes, with what stands under it
abbrev pub places_of : {A : Type 0} → List (String A × Placed) → Places
places_of {A} entries = map {A = String A × Placed} (λ entry. (string_bytes entry.0, entry.1)) entries

-- one name has this place now, and every other what it had
abbrev pub Changes : {A : Type 0} → BTreeMap (String A) Placed → BTreeMap (String A) Placed → List ℕ → Placed → Type 0
Changes old new name place = (q : List ℕ) → get_by_text new q ≡ (if same_text name q then Some place else get_by_text old q)

-- every name keeps its bytes, and what lay ready lies ready
pub record Prepared {A : Type 0} (old new : BTreeMap (String A) Placed) : Type 0 where
  pub kept : (q : List ℕ) → kept_on (get_by_text new q) ≡ kept_on (get_by_text old q)
  pub ready : (q bytes : List ℕ) → is_ready_on bytes (get_by_text old q) ≡ true → is_ready_on bytes (get_by_text new q) ≡ true
