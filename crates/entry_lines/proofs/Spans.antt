-- A stretch of a list after the list was changed.
use Rattle.std.proofs.Common.{◌≡◌, ℕ, suc, ◌+◌, ◌-◌, ◌≤◌, ◌<◌, List, [], ◌∷◌, ◌++◌, map, length, length-append, take, drop, get_or, refl, sym, ap, ◌∙◌, arith, inl, inr}
use Rattle.std.specs.List.{insert}
use Rattle.std.proofs.lemmas.Bool.{cases_lt}
use Rattle.std.proofs.lemmas.List.{ext_get_or, get_or-drop, get_or-take, length-drop, length-take-le, length-map, get_or-map, get_or_append_left}
use Rattle.std.proofs.Math.Seq.{get_or-append_seam}
use Rattle.std.proofs.lemmas.List.Edits.{length-insert, get_or-insert_at, get_or-insert_below, get_or-insert_above}

-- so many elements from a place on
abbrev pub span : {A : Type 0} → List A → ℕ → ℕ → List A
span xs from count = take count (drop from xs)

pub span_length : {A : Type 0} (xs : List A) (from count : ℕ) → from + count ≤ length xs → length (span xs from count) ≡ count
span_length xs from count fits = length-take-le count (drop from xs) (let e = length-drop from xs in omega (arith, e, fits))

pub span_at : {A : Type 0} (xs : List A) (from count k : ℕ) (d : A) → k < count → get_or (span xs from count) k d ≡ get_or xs (from + k) d
span_at xs from count k d lt = get_or-take count (drop from xs) k d lt ∙ get_or-drop from xs k d

-- two stretches with the same elements
pub spans_same : {A : Type 0} (d : A) (xs ys : List A) (from there count : ℕ) → from + count ≤ length xs → there + count ≤ length ys
    → ((k : ℕ) → k < count → get_or xs (from + k) d ≡ get_or ys (there + k) d) → span xs from count ≡ span ys there count
spans_same d xs ys from there count fits goes each =
    let long = span_length xs from count fits in
    let too = span_length ys there count goes in
    ext_get_or d (span xs from count) (span ys there count) (long ∙ sym too) (λ k lt.
    let within : k < count = omega (arith, lt, long) in
    span_at xs from count k d within ∙ each k within ∙ sym (span_at ys there count k d within))

-- one stretch that is changed element by element
pub span_mapped : {A : Type 0} (d : A) (f : A → A) (xs ys : List A) (from count : ℕ) → from + count ≤ length xs → length ys ≡ length xs
    → ((k : ℕ) → from ≤ k → k < from + count → get_or ys k d ≡ f (get_or xs k d)) → span ys from count ≡ map f (span xs from count)
span_mapped d f xs ys from count fits same each =
    let long = span_length xs from count fits in
    let too = span_length ys from count (omega (arith, fits, same)) in
    let mapped = length-map (span xs from count) f in
    ext_get_or d (span ys from count) (map f (span xs from count)) (too ∙ sym (mapped ∙ long)) (λ k lt.
    let within : k < count = omega (arith, lt, too) in
    span_at ys from count k d within ∙ each (from + k) (omega arith) (omega (arith, within))
    ∙ ap f (sym (span_at xs from count k d within)) ∙ sym (get_or-map f (span xs from count) k d d (omega (arith, within, long))))

-- a stretch that ends at or before the place of a new element
pub span_before : {A : Type 0} (d x : A) (xs : List A) (place from count : ℕ) → place ≤ length xs → from + count ≤ place → span (insert xs place x) from count ≡ span xs from count
span_before d x xs place from count within ends =
    let longer = length-insert xs place x within in
    spans_same d (insert xs place x) xs from from count (omega (arith, longer, ends, within)) (omega (arith, ends, within))
    (λ k lt. get_or-insert_below xs place x d (from + k) (omega (arith, lt, ends)) within)

-- one that begins at or behind it
pub span_behind : {A : Type 0} (d x : A) (xs : List A) (place from count : ℕ) → place ≤ from → from + count ≤ length xs → span (insert xs place x) (from + 1) count ≡ span xs from count
span_behind d x xs place from count begins fits =
    let longer = length-insert xs place x (omega (arith, begins, fits)) in
    spans_same d (insert xs place x) xs (from + 1) from count (omega (arith, longer, fits)) fits
    (λ k lt.
    let next : from + 1 + k ≡ from + k + 1 = omega arith in
    ap (λ (n : ℕ). get_or (insert xs place x) n d) next ∙ get_or-insert_above xs place x d (from + k) (omega (arith, begins)) (omega (arith, begins, fits)))

-- the one that ends there has the new element at its end
pub span_grown : {A : Type 0} (d x : A) (xs : List A) (from count : ℕ) → from + count ≤ length xs → span (insert xs (from + count) x) from (count + 1) ≡ span xs from count ++ x ∷ []
span_grown d x xs from count fits =
    let longer = length-insert xs (from + count) x fits in
    let long = span_length xs from count fits in
    let too = span_length (insert xs (from + count) x) from (count + 1) (omega (arith, longer, fits)) in
    let ended : length (span xs from count ++ x ∷ []) ≡ length (span xs from count) + 1 = length-append (span xs from count) (x ∷ []) in
    ext_get_or d (span (insert xs (from + count) x) from (count + 1)) (span xs from count ++ x ∷ []) (omega (arith, too, ended, long)) (λ k lt.
    let within : k < count + 1 = omega (arith, lt, too) in
    span_at (insert xs (from + count) x) from (count + 1) k d within ∙ elim (cases_lt k count) [
      | inl before ↦
          get_or-insert_below xs (from + count) x d (from + k) (omega (arith, before)) fits
          ∙ sym (span_at xs from count k d before) ∙ sym (get_or_append_left (span xs from count) (x ∷ []) d k (omega (arith, before, long)))
      | inr last ↦
          let here : from + k ≡ from + count = omega (arith, last, within) in
          let end : k ≡ length (span xs from count) = omega (arith, last, within, long) in
          ap (λ (n : ℕ). get_or (insert xs (from + count) x) n d) here ∙ get_or-insert_at xs (from + count) x d fits
          ∙ sym (ap (λ (n : ℕ). get_or (span xs from count ++ x ∷ []) n d) end ∙ get_or-append_seam (span xs from count) x [] d)
    ])
