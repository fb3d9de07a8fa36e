-- Lists that are changed element by element.
use Rattle.std.proofs.Common.{◌≡◌, ℕ, zero, suc, ◌+◌, ◌<◌, List, [], ◌∷◌, ◌++◌, map, length, take, drop, get_or, set, refl, ap, add-one, arith, ◌∙◌}

step_mapped : {A : Type 0} (f : A → A) (d : A) (xs : List A) (i : ℕ) → i < length xs
    → set (map f (take i xs) ++ drop i xs) i (f (get_or xs i d)) ≡ map f (take (suc i) xs) ++ drop (suc i) xs
step_mapped f d [] i lt = absurd (omega arith)
step_mapped f d (x ∷ xs) zero lt = refl
step_mapped f d (x ∷ xs) (suc i) lt = ap (λ ys. f x ∷ ys) (step_mapped f d xs i (omega arith))

there_still : {A : Type 0} (f : A → A) (d : A) (xs : List A) (i : ℕ) → i < length xs → get_or (map f (take i xs) ++ drop i xs) i d ≡ get_or xs i d
there_still f d [] i lt = absurd (omega arith)
there_still f d (x ∷ xs) zero lt = refl
there_still f d (x ∷ xs) (suc i) lt = there_still f d xs i (omega arith)

-- one element more is changed
pub mapped_step : {A : Type 0} (f : A → A) (d : A) (initial now : List A) (i : ℕ) (y : A) → i < length initial
    → now ≡ map f (take i initial) ++ drop i initial → y ≡ f (get_or now i d)
    → set now i y ≡ map f (take (i + 1) initial) ++ drop (i + 1) initial
mapped_step f d initial now i y lt is value =
    let same : y ≡ f (get_or initial i d) = value ∙ ap (λ xs. f (get_or xs i d)) is ∙ ap f (there_still f d initial i lt) in
    rw (is, same, add-one) (step_mapped f d initial i lt)
