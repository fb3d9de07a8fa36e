-- The last instant of some entries.
use Rattle.std.proofs.Common.{◌≡◌, ℕ, ◌-◌, ◌<◌, zero, suc, Some, List, [], ◌∷◌, length, refl, ap, sym, ◌∙◌, arith}
use Rattle.std.specs.Prelude.{slice_get}
use Rattle.std.specs.Option.{option_map}
use Rattle.plain_words.specs.Lists.{last, last_from}
use Rattle.sched_plain.specs.Entries.{instants_of}
use Rattle.entry_lines.specs.Rows.{Row, row_there}
use Rattle.ledger_rows.specs.Rows.{pairs_of}

last_is : {A : Type 0} (x : A) (xs : List A) → last_from x xs ≡ slice_get (x ∷ xs) (length xs)
last_is x [] = refl
last_is x (y ∷ ys) = last_is y ys

-- the last element stands at the last place
pub last_at : {A : Type 0} (xs : List A) → slice_get xs (length xs - 1) ≡ last xs
last_at [] = refl
last_at (x ∷ xs) = let e : suc (length xs) - 1 ≡ length xs = omega arith in rw e (sym (last_is x xs))

last_from_row : (row : Row) (rows : List Row) → option_map {T = Row} (λ r. r.instant) (last_from row rows) ≡ last (instants_of (pairs_of (row ∷ rows)))
last_from_row row [] = refl
last_from_row row (next ∷ rows) = last_from_row next rows

-- the instant of the last row is the last instant
pub last_instant_is : (rows : List Row) → option_map {T = Row} (λ r. r.instant) (last rows) ≡ last (instants_of (pairs_of rows))
last_instant_is [] = refl
last_instant_is (row ∷ rows) = last_from_row row rows

-- the instant of the row at the last place
pub last_there : (rows : List Row) (n : ℕ) → n ≡ length rows → 0 < n → Some (row_there rows (n - 1)).instant ≡ last (instants_of (pairs_of rows))
last_there rows n is some =
    let at : slice_get rows (length rows - 1) ≡ Some (row_there rows (n - 1)) = there rows (length rows - 1) (omega (arith, is, some)) ∙ ap (λ (k : ℕ). Some (row_there rows (k - 1))) (sym is) in
    ap (option_map {T = Row} (λ r. r.instant)) (sym at ∙ last_at rows) ∙ last_instant_is rows
  where
    there : (rows : List Row) (i : ℕ) → i < length rows → slice_get rows i ≡ Some (row_there rows i)
    there [] i lt = absurd (omega (arith, lt))
    there (row ∷ rows) zero lt = refl
    there (row ∷ rows) (suc i) lt = there rows i (omega (arith, lt))
